-- The first world keeps the invariant with a history in which nothing happened: there is nothing in it to look at.
use Rattle.std.proofs.Common.{◌≡◌, ℕ, [], arith, refl, subst}
use Rattle.ring_types.specs.Rings.{IsRing, Layout}
use Rattle.ring_model.specs.Worlds.{first_world}
use Rattle.ring_model.specs.Nodes.{empty_durable, fresh_soft}
use Rattle.ring_model.specs.declared.nodes.Soft.{Soft}
use Rattle.ring_model.proofs.Lists.{none_contained}
use Rattle.ring_model.proofs.Invariant.{As_leader, By_reply, HasAcked, History, IsRunning, Nothing_yet}
use Rattle.ring_model.proofs.Turns.{IsWorld}
use Rattle.ring_model.proofs.TellingLeader.{KeepsPending}
use Rattle.ring_model.proofs.Told.{HoldsTold}

-- ---- the first world
abbrev pub first_history : History
first_history = record { elections = []; casts = []; book = λ t. []; messages = []; chosen = [] }

no_acks : (v s p : ℕ) → HasAcked first_history v s p → ⊥
no_acks v s p (As_leader e in_e t by le) = none_contained e in_e
no_acks v s p (By_reply m q in_m by body le) = none_contained m in_m

pub first_holds : (ring : Layout) → IsRing ring → IsWorld ring first_world first_history
first_holds ring valid = record {
  messages = refl;
  chosen = refl;
  history = record {
    valid = valid;
    elections = λ e in_e. absurd (none_contained e in_e);
    one_leader = λ e f in_e in_f t. absurd (none_contained e in_e);
    terms_once = λ j k e f at_j at_k t. absurd cc;
    casts = λ c in_c. absurd (none_contained c in_c);
    one_vote = λ c d in_c in_d v t. absurd (none_contained c in_c);
    sent = λ m in_m. absurd (none_contained m in_m);
    chosen = (0, Nothing_yet refl);
  };
  nodes = λ id. record {
    log = record { entry = λ k some le. absurd (omega arith); rises = λ j k a b. (let z : j ≡ 0 = omega arith in rw z (omega arith)); below = omega arith };
    led_below = λ e in_e by. absurd (none_contained e in_e);
    led_log = λ e in_e by t. absurd (none_contained e in_e);
    cast_below = λ c in_c by. absurd (none_contained c in_c);
    cast_kept = λ c in_c by t. absurd (none_contained c in_c);
    votes_cast = λ w in_w. absurd (none_contained w in_w);
    dropped = λ c in_c by. absurd (none_contained c in_c);
    between = λ c e in_c in_e a b t x y. absurd (none_contained c in_c);
    acked_below = λ s p a. absurd (no_acks id s p a);
    acked = λ s p a. absurd (no_acks id s p a);
    applied = Nothing_yet refl;
  };
  running = λ id s up. let is : fresh_soft empty_durable ≡ s = cc in
      subst (λ (o : Soft). IsRunning ring first_history id empty_durable o) is
      (record { sealed = Nothing_yet refl; chosen = omega arith; applied = omega arith; role = tt });
  applied = λ id. omega arith;
}

pub first_told : (ring : Layout) → HoldsTold ring first_world first_history
first_told ring = record {
  pending = λ id s up. let is : fresh_soft empty_durable ≡ s = cc in subst (λ (o : Soft). KeepsPending [] o) is
      (record { none = λ same. refl; each = λ p in_p. absurd (none_contained p in_p) });
  told = λ gtid opid term y. absurd (none_contained y.0 y.1);
}
