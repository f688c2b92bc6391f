-- Events one behind another: those of two lists are those of the first and then, from the offset behind them, those of the second. An offset is seen modulo 2^32 alone, so it may be counted modulo 2^64.
use Rattle.std.proofs.Common.{◌≡◌, ℕ, ◌+◌, ◌%◌, ◌^◌, ◌<◌, ◌≤◌, List, [], ◌∷◌, ◌++◌, length, drop, refl, sym, ap, ap₂, ◌∙◌, append_assoc, append-nil, Some, arith}
use Rattle.std.proofs.lemmas.List.{drop_all}
use Rattle.event_frame.specs.Events.{event, size_of}
use Rattle.ring_types.specs.Rows.{place_in, table_name}
use Rattle.ring_types.specs.declared.values.Change.{Change}
use Rattle.ring_types.specs.declared.values.Txn.{Txn}
use Rattle.ring_types.specs.declared.entries.Place.{Place}
use Rattle.ring_types.specs.declared.schemas.Schema.{Schema}
use Rattle.event_txn.specs.Bodies.{gtid_body, begin_body, xid_body}
use Rattle.event_txn.specs.Tables.{map_body, table_at}
use Rattle.event_txn.specs.Rows.{kind_of, rows_body}
use Rattle.event_txn.specs.Txns.{Typed, change_bodies, changes_bodies, events_from, behind, txn_events}
use Rattle.event_txn.proofs.Lengths.{gtid_length}

pub event_wrapped : (kind n : ℕ) (body : List ℕ) → event kind 0 body (n % 2 ^ 64) ≡ event kind 0 body n
unfolding event
event_wrapped kind n body =
    let e : (n % 2 ^ 64 + (length body + 23)) % 2 ^ 32 ≡ (n + (length body + 23)) % 2 ^ 32 = omega arith in
    rw e refl

pub events_wrapped : (n : ℕ) (es : List Typed) → events_from (n % 2 ^ 64) es ≡ events_from n es
events_wrapped n [] = refl
events_wrapped n (e ∷ more) =
    let s : ℕ = size_of e.1 in
    let sum : (n % 2 ^ 64 + s) % 2 ^ 64 ≡ (n + s) % 2 ^ 64 = omega arith in
    let rest : events_from (n % 2 ^ 64 + s) more ≡ events_from (n + s) more =
    sym (events_wrapped (n % 2 ^ 64 + s) more) ∙ ap (λ (k : ℕ). events_from k more) sum ∙ events_wrapped (n + s) more in
    ap₂ (λ (x y : List ℕ). x ++ y) (event_wrapped e.0 n e.1) rest

pub behind_wrapped : (n : ℕ) (es : List Typed) → behind (n % 2 ^ 64) es % 2 ^ 64 ≡ behind n es % 2 ^ 64
behind_wrapped n [] = omega arith
behind_wrapped n (e ∷ more) =
    let s : ℕ = size_of e.1 in
    let sum : (n % 2 ^ 64 + s) % 2 ^ 64 ≡ (n + s) % 2 ^ 64 = omega arith in
    sym (behind_wrapped (n % 2 ^ 64 + s) more) ∙ ap (λ (k : ℕ). behind k more % 2 ^ 64) sum ∙ behind_wrapped (n + s) more

pub events_from-append : (at : ℕ) (es fs : List Typed) → events_from at (es ++ fs) ≡ events_from at es ++ events_from (behind at es) fs
events_from-append at [] fs = refl
events_from-append at (e ∷ es) fs =
    ap (λ (x : List ℕ). event e.0 0 e.1 at ++ x) (events_from-append (at + size_of e.1) es fs)
    ∙ sym (append_assoc (event e.0 0 e.1 at) (events_from (at + size_of e.1) es) (events_from (behind (at + size_of e.1) es) fs))

pub behind-append : (at : ℕ) (es fs : List Typed) → behind at (es ++ fs) ≡ behind (behind at es) fs
behind-append at [] fs = refl
behind-append at (e ∷ es) fs = behind-append (at + size_of e.1) es fs

-- one event alone
pub one_alone : (kind at : ℕ) (body : List ℕ) → events_from at ((kind, body) ∷ []) ≡ event kind 0 body at
one_alone kind at body = append-nil (event kind 0 body at)

-- ---- the two events of a change

pub bodies_at : (schema : Schema) (c : Change) (place : ℕ) → place_in schema (table_name c) ≡ Some place → change_bodies schema c ≡ (19, map_body schema place) ∷ (kind_of c, rows_body place (table_at schema place) c) ∷ []
bodies_at schema c place e = rw e refl

pub change_put : (schema : Schema) (c : Change) (place at first next : ℕ) (old mid new : List ℕ) → place_in schema (table_name c) ≡ Some place
    → first ≡ size_of (map_body schema place) → next ≡ (at + first) % 2 ^ 64 → mid ≡ old ++ event 19 0 (map_body schema place) at → new ≡ mid ++ event (kind_of c) 0 (rows_body place (table_at schema place) c) next
    → new ≡ old ++ events_from at (change_bodies schema c)
change_put schema c place at first next old mid new found size sum m n =
    let a : List ℕ = event 19 0 (map_body schema place) at in
    let rows : List ℕ = rows_body place (table_at schema place) c in
    let offset : next ≡ (at + size_of (map_body schema place)) % 2 ^ 64 = sum ∙ ap (λ (k : ℕ). (at + k) % 2 ^ 64) size in
    let second : event (kind_of c) 0 rows next ≡ events_from (at + size_of (map_body schema place)) ((kind_of c, rows) ∷ []) =
    ap (λ (k : ℕ). event (kind_of c) 0 rows k) offset ∙ event_wrapped (kind_of c) (at + size_of (map_body schema place)) rows ∙ sym (one_alone (kind_of c) (at + size_of (map_body schema place)) rows) in
    n ∙ ap₂ (λ (x y : List ℕ). x ++ y) m second ∙ append_assoc old a (events_from (at + size_of (map_body schema place)) ((kind_of c, rows) ∷ []))
    ∙ ap (λ (es : List Typed). old ++ events_from at es) (sym (bodies_at schema c place found))

pub change_behind : (schema : Schema) (c : Change) (place at first next second end : ℕ) → place_in schema (table_name c) ≡ Some place
    → first ≡ size_of (map_body schema place) → next ≡ (at + first) % 2 ^ 64 → second ≡ size_of (rows_body place (table_at schema place) c) → end ≡ (next + second) % 2 ^ 64
    → end ≡ behind at (change_bodies schema c) % 2 ^ 64
change_behind schema c place at first next second end found f n s e =
    let sum : end ≡ (at + size_of (map_body schema place) + size_of (rows_body place (table_at schema place) c)) % 2 ^ 64 = omega (arith, f, n, s, e) in
    sum ∙ ap (λ (es : List Typed). behind at es % 2 ^ 64) (sym (bodies_at schema c place found))

-- ---- where a loop over the changes stands: what was put and what is left are all of them
pub record StandsAt (schema : Schema) (out total : List ℕ) (offset end : ℕ) (changes : List Change) : Type 0 where
  pub text : out ++ events_from offset (changes_bodies schema changes) ≡ total
  pub last : behind offset (changes_bodies schema changes) % 2 ^ 64 ≡ end

pub goes_on : (schema : Schema) (out total new : List ℕ) (offset end next : ℕ) (c : Change) (changes : List Change) → StandsAt schema out total offset end (c ∷ changes)
    → new ≡ out ++ events_from offset (change_bodies schema c) → next ≡ behind offset (change_bodies schema c) % 2 ^ 64 → StandsAt schema new total next end changes
goes_on schema out total new offset end next c changes s n e =
    let this : List Typed = change_bodies schema c in
    let more : List Typed = changes_bodies schema changes in
    let rest : events_from next more ≡ events_from (behind offset this) more = ap (λ (k : ℕ). events_from k more) e ∙ events_wrapped (behind offset this) more in
    let whole : new ++ events_from next more ≡ out ++ events_from offset (this ++ more) =
    ap₂ (λ (x y : List ℕ). x ++ y) n rest ∙ append_assoc out (events_from offset this) (events_from (behind offset this) more) ∙ ap (λ (x : List ℕ). out ++ x) (sym (events_from-append offset this more)) in
    let end_is : behind next more % 2 ^ 64 ≡ behind offset (this ++ more) % 2 ^ 64 =
    ap (λ (k : ℕ). behind k more % 2 ^ 64) e ∙ behind_wrapped (behind offset this) more ∙ ap (λ (k : ℕ). k % 2 ^ 64) (sym (behind-append offset this more)) in
    record { text = whole ∙ s.text; last = end_is ∙ s.last }

-- nothing is left
pub ends_there : (schema : Schema) (out total : List ℕ) (offset end : ℕ) (changes : List Change) (i : ℕ) → length changes ≤ i → offset < 2 ^ 64 → StandsAt schema out total offset end (drop i changes) → offset ≡ end
ends_there schema out total offset end changes i past small s =
    let last : offset % 2 ^ 64 ≡ end = rw (drop_all i changes past) at s.last in
    omega (arith, last, small)

-- ---- the whole transaction
pub txn_put : (schema : Schema) (txn : Txn) (position : ℕ) (place : Place) (second third end : ℕ) (old a b c new : List ℕ)
    → second ≡ (place.at + 65) % 2 ^ 64 → third ≡ (place.at + 107) % 2 ^ 64 → end ≡ behind third (changes_bodies schema txn.changes) % 2 ^ 64
    → a ≡ old ++ event 33 0 (gtid_body place.sequence txn.gtid) place.at → b ≡ a ++ event 2 0 begin_body second → c ≡ b ++ events_from third (changes_bodies schema txn.changes) → new ≡ c ++ event 16 0 (xid_body position) end
    → new ≡ old ++ txn_events schema txn position place
unfolding txn_events
txn_put schema txn position place second third end old a b c new s t e ha hb hc hn =
    let at : ℕ = place.at in
    let g : List ℕ = gtid_body place.sequence txn.gtid in
    let middle : List Typed = changes_bodies schema txn.changes in
    let last : List Typed = (16, xid_body position) ∷ [] in
    let size : at + size_of g ≡ at + 65 = ap (λ (n : ℕ). at + (n + 23)) (sym (gtid_length place.sequence txn.gtid)) in
    let sum : at + 65 + 42 ≡ at + 107 = omega arith in
    let first : List ℕ = event 33 0 g at in
    let begin : List ℕ = event 2 0 begin_body (at + 65) in
    let begin_is : event 2 0 begin_body second ≡ begin = ap (event 2 0 begin_body) s ∙ event_wrapped 2 (at + 65) begin_body in
    let changes_are : events_from third middle ≡ events_from (at + 107) middle = ap (λ (k : ℕ). events_from k middle) t ∙ events_wrapped (at + 107) middle in
    let end_is : end ≡ behind (at + 107) middle % 2 ^ 64 = e ∙ ap (λ (k : ℕ). behind k middle % 2 ^ 64) t ∙ behind_wrapped (at + 107) middle in
    let last_is : event 16 0 (xid_body position) end ≡ events_from (behind (at + 107) middle) last =
    ap (event 16 0 (xid_body position)) end_is ∙ event_wrapped 16 (behind (at + 107) middle) (xid_body position) ∙ sym (one_alone 16 (behind (at + 107) middle) (xid_body position)) in
    let rest : events_from (at + 107) (middle ++ last) ≡ events_from (at + 107) middle ++ events_from (behind (at + 107) middle) last = events_from-append (at + 107) middle last in
    let all : txn_events schema txn position place ≡ first ++ (begin ++ events_from (at + 107) (middle ++ last)) =
    ap (λ (k : ℕ). first ++ (event 2 0 begin_body k ++ events_from (k + 42) (middle ++ last))) size
    ∙ ap (λ (k : ℕ). first ++ (begin ++ events_from k (middle ++ last))) sum in
    hn ∙ rw (hc, hb, ha, begin_is, changes_are, last_is, all, rest) (simp append_assoc refl)
