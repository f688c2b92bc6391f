use Rattle.std.proofs.Common.{◌≡◌, ◌&&◌, Bool, true, false}
use Rattle.ring_types.specs.Rings.{region_of}
use Rattle.ring_model.specs.Quorums.{covers}
use Rattle.transfer_core.proofs.polls.covers_both.Goals as goal

second : (a b r : Bool) → a ≡ true → r ≡ b → r ≡ (a && b)
second true b r h is = is
second false b r h is = absurd (let z : false ≡ true = h in cc)

pub returns-then-covers : goal.returns-then-covers
returns-then-covers c =
    let ring = c.args.ring.now in
    let ids = c.args.ids.now in
    second (covers ring (region_of ring c.args.leader) ids) (covers ring (region_of ring c.args.me) ids) c.covers-then-covers.result (cc) (cc)
