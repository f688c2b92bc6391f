use Rattle.std.proofs.Common.{◌≡◌, ◌≢◌, ℕ, ◌+◌, true, refl, sym, ap, subst, ◌∙◌, length, arith}
use Rattle.edge_traits.specs.FileStates.{Contents}
use Rattle.edge_traits.specs.declared.disks.FileId.TheVariants as id
use Rattle.binlog_store.specs.Damages.{before_end, ending_of}
use Rattle.binlog_store.specs.Following.{ComesTo, IsBegun, IsShown}
use Rattle.binlog_store.specs.Held.{IsLastFile}
use Rattle.binlog_store.specs.declared.endings.Ending.{Ending}
use Rattle.binlog_store.specs.declared.endings.Ending.TheVariants.{TooShort}
use Rattle.binlog_store.proofs.FileHeads.{earlier_ending}
use Rattle.binlog_store.proofs.HandedOn.{ok_both, ok_more}
use Rattle.binlog_store.proofs.Keeping.{keeps_one}
use Rattle.binlog_store.proofs.LastFiles.{reaching, shown_long}
use Rattle.std.specs.Prelude.{OnOk}
use Rattle.binlog_store.proofs.mounting.read_next_file.Given.{Over}
use Rattle.binlog_store.proofs.mounting.read_next_file.Goals as goal

pub returns-in_err-bytes-clause-keeps : goal.returns-in_err-bytes-clause-keeps
returns-in_err-bytes-clause-keeps g c told =
    keeps_one g.D.Disk.files g.D.Disk.moment g.D.Disk.left_since (id.Binlog c.args.held.now.end.place.file) refl (c.read_file.ensures.crash told)

pub returns-clause-next : goal.returns-clause-next
returns-clause-next g c =
    let whole : Contents = λ f. c.in_ok-bytes.bytes.items in
    let is : c.ending_of-ending.result ≡ ending_of c.args.point whole c.args.held.now.end.place.file = c.ending_of-ending.ensures whole (c.len.ensures ∙ (sym c.as_slice.ensures.len ∙ ap length c.as_slice.ensures.value)) in
    ok_more c.read_shown.result c.read_shown.ensures.next
    (λ next less. next (is ∙ earlier_ending c.args.point whole c.args.held.now.end.place.file (omega (arith, less))))

pub returns-clause-last : goal.returns-clause-last
returns-clause-last g c =
    let n = c.args.held.now.end.place.file in
    let whole : Contents = λ f. c.in_ok-bytes.bytes.items in
    let is : c.ending_of-ending.result ≡ ending_of c.args.point whole n = c.ending_of-ending.ensures whole (c.len.ensures ∙ (sym c.as_slice.ensures.len ∙ ap length c.as_slice.ensures.value)) in
    let shown : c.before_end-shown.result.now ≡ before_end c.args.point whole (id.Binlog n) = c.before_end-shown.ensures whole (sym c.as_slice.ensures.value) in
    ok_both c.read_shown.result c.read_shown.ensures.last c.read_shown.ensures.short
    (λ last long own.
    let never : ending_of c.args.point whole n ≢ TooShort = λ short. long (is ∙ short) in
    subst (λ (at : ℕ). IsLastFile c.args.held.now.end.place at c.args.point.count c.read_shown.new.self)
    (ap length shown ∙ shown_long c.args.point whole n own never)
    (last (is ∙ reaching c.args.point whole n own never)))

is_shown : (g : Over) (c : goal.After-drop-bytes g) → g.D.Disk.tells c.args.disk.now ≡ true → (x : Contents) (n : ℕ)
    → x (id.Binlog (n + 1)) ≡ (g.D.Disk.files c.args.disk.now (id.Binlog (n + 1))).bytes → c.args.held.now.end.place.file ≡ n + 1
    → IsBegun c.args.schema.now (before_end c.args.point x) n c.args.held.now.entries
    → IsShown c.args.schema.now c.args.point x n c.args.held.now.entries c.before_end-shown.result.now c.ending_of-ending.result c.args.point.count
is_shown g c told x n there first begun =
    let read : x (id.Binlog c.args.held.now.end.place.file) ≡ c.in_ok-bytes.bytes.items =
    ap (λ (m : ℕ). x (id.Binlog m)) first ∙ (there ∙ (ap (λ (m : ℕ). (g.D.Disk.files c.args.disk.now (id.Binlog m)).bytes) (sym first) ∙ sym (c.in_ok-bytes.ensures.told told))) in
    record {
      within = omega (arith, c.requires.within, first);
      begun = begun;
      bytes = c.before_end-shown.ensures x (read ∙ sym c.as_slice.ensures.value) ∙ ap (λ (m : ℕ). before_end c.args.point x (id.Binlog m)) first;
      ending_is = c.ending_of-ending.ensures x ((c.len.ensures ∙ (sym c.as_slice.ensures.len ∙ ap length c.as_slice.ensures.value)) ∙ ap length (sym read)) ∙ ap (ending_of c.args.point x) first;
      count_is = refl;
    }

pub returns-clause-told : goal.returns-clause-told
returns-clause-told g c told = λ x n there first begun.
    let shown = is_shown g c told x n there first begun in
    subst (λ (e : Ending). OnOk c.read_shown.result (ComesTo c.args.schema.now c.args.point x (n + 1) c.read_shown.new.self.entries e)) shown.ending_is
    (c.read_shown.ensures.told c.args.point x n first shown)

pub returns-clause-damaged : goal.returns-clause-damaged
returns-clause-damaged g c told = λ x n there first begun. c.read_shown.ensures.damaged c.args.point x n first (is_shown g c told x n there first begun)

pub returns-clause-keeps : goal.returns-clause-keeps
returns-clause-keeps g c told =
    keeps_one g.D.Disk.files g.D.Disk.moment g.D.Disk.left_since (id.Binlog c.args.held.now.end.place.file) refl (c.read_file.ensures.crash told)
