-- the search for a commit count: which positions need not be looked at
use Rattle.std.proofs.Common.{◌≡◌, ◌≢◌, ℕ, zero, suc, ◌<◌, ◌≤◌, ◌==◌, ◌&&◌, Bool, true, false, nat_lt, nat_le, if◌then◌else◌, List, [], ◌∷◌, length, Option, Some, None, refl, sym, ap, ◌∙◌, subst, arith}
use Rattle.std.specs.Prelude.{IfSome}
use Rattle.std.proofs.lemmas.Bool.Decides.{nat_tests}
use Rattle.ring_types.specs.declared.entries.Entry.{Entry}
use Rattle.ring_types.specs.declared.entries.Opid.{Opid}
use Rattle.edge_traits.specs.Views.{Sight}
use Rattle.ring_types.specs.Logs.{IsLog, term_at, last}
use Rattle.ring_types.specs.Rings.{Layout, region_of}
use Rattle.ring_model.specs.declared.nodes.Peer.{Peer}
use Rattle.ring_model.specs.Quorums.{commits}
use Rattle.ring_model.specs.Steps.{greatest, holders, may_commit}
use Rattle.commit_pipeline.specs.Counts.{matched_below, count_of}

-- ---- the greatest matched position below
abbrev better : ℕ → ℕ → ℕ → ℕ
better best matched position = if nat_lt best matched && nat_lt matched position then matched else best

better-up : (best matched position : ℕ) → best ≤ better best matched position
better-up best matched position = grind (arith, nat_tests)

better-below : (best matched position : ℕ) → best < position → better best matched position < position
better-below best matched position h = grind (arith, nat_tests)

better-none : (best matched position p : ℕ) → better best matched position < p → p ≤ position → nat_le p matched ≡ nat_le position matched
better-none best matched position p low h = grind (arith, nat_tests)

pub matched_below-up : (best position : ℕ) (peers : List Peer) → best ≤ matched_below best position peers
matched_below-up best position [] = omega arith
matched_below-up best position (q ∷ peers) =
    let up = better-up best q.matched position in
    let more = matched_below-up (better best q.matched position) position peers in
    omega arith

pub matched_below-below : (best position : ℕ) (peers : List Peer) → best < position → matched_below best position peers < position
matched_below-below best position [] h = h
matched_below-below best position (q ∷ peers) h = matched_below-below (better best q.matched position) position peers (better-below best q.matched position h)

holders-same : (p position best : ℕ) (peers : List Peer) → p ≤ position → matched_below best position peers < p → holders p peers ≡ holders position peers
holders-same p position best [] h low = refl
holders-same p position best (q ∷ peers) h low =
    let rest : holders p peers ≡ holders position peers = holders-same p position (better best q.matched position) peers h low in
    let up : better best q.matched position ≤ matched_below (better best q.matched position) position peers = matched_below-up (better best q.matched position) position peers in
    let same : nat_le p q.matched ≡ nat_le position q.matched = better-none best q.matched position p (omega arith) h in
    let A : Bool → List ℕ → List ℕ = λ b ids. if b then q.node ∷ ids else ids in
    ap (λ (b : Bool). A b (holders p peers)) same ∙ ap (A (nat_le position q.matched)) rest

-- ---- the greatest that passes
pub greatest-low : (test : ℕ → Bool) (floor n : ℕ) → n ≤ floor → floor ≡ greatest test floor n
greatest-low test floor zero h = grind (arith, nat_tests)
greatest-low test floor (suc n) h = grind (arith, nat_tests)

greatest-found : (test : ℕ → Bool) (floor n : ℕ) → floor < n → test n ≡ true → n ≡ greatest test floor n
greatest-found test floor zero h t = absurd (omega arith)
greatest-found test floor (suc n) h t = grind (arith, nat_tests)

greatest-missed : (test : ℕ → Bool) (floor n : ℕ) → floor ≤ n → test (suc n) ≡ false → greatest test floor n ≡ greatest test floor (suc n)
greatest-missed test floor n h t = grind (arith, nat_tests)

greatest-skip : (test : ℕ → Bool) (floor m n : ℕ) → floor ≤ m → m ≤ n → ((p : ℕ) → m < p → p ≤ n → test p ≡ false) → greatest test floor m ≡ greatest test floor n
greatest-skip test floor m n low h none = go n h none
  where
    step : (n : ℕ) (b : Bool) → nat_le (suc n) m ≡ b → m ≤ suc n → ((p : ℕ) → m < p → p ≤ suc n → test p ≡ false) → (m ≤ n → greatest test floor m ≡ greatest test floor n) → greatest test floor m ≡ greatest test floor (suc n)
    step n true t h none rest = let same : m ≡ suc n = grind (arith, nat_tests) in ap (greatest test floor) same
    step n false t h none rest =
        let above : m ≤ n = grind (arith, nat_tests) in
        rest above ∙ greatest-missed test floor n (omega arith) (none (suc n) (omega arith) (omega arith))

    go : (n : ℕ) → m ≤ n → ((p : ℕ) → m < p → p ≤ n → test p ≡ false) → greatest test floor m ≡ greatest test floor n
    go zero h none = let same : m ≡ zero = omega arith in ap (greatest test floor) same
    go (suc n) h none = step n (nat_le (suc n) m) refl h none (λ above. go n above (λ p a b. none p a (omega arith)))

-- ---- with a leader's test
only_then : (b x : Bool) → x ≡ false → (if b then x else false) ≡ false
only_then true x h = h
only_then false x h = refl

only_if : (b x : Bool) → b ≡ false → (if b then x else false) ≡ false
only_if true x h = cc
only_if false x h = refl

both : (b x : Bool) → b ≡ true → x ≡ true → (if b then x else false) ≡ true
both true x h k = k
both false x h k = cc

abbrev pub is_held : Layout → ℕ → List Peer → ℕ → Bool
is_held ring me peers p = commits ring (region_of ring me) (me ∷ holders p peers)

unheld : (ring : Layout) (me term : ℕ) (log : List Entry) (peers : List Peer) (p : ℕ) → is_held ring me peers p ≡ false → may_commit ring me term log peers p ≡ false
unheld ring me term log peers p h = only_then (term_at log p == term) (is_held ring me peers p) h

same_held : (ring : Layout) (me best position p : ℕ) (peers : List Peer) → p ≤ position → matched_below best position peers < p → is_held ring me peers position ≡ false → is_held ring me peers p ≡ false
same_held ring me best position p peers h low not_held =
    ap (λ (ids : List ℕ). commits ring (region_of ring me) (me ∷ ids)) (holders-same p position best peers h low) ∙ not_held

pub skips : (told : Option (List Entry)) (ring : Layout) (me term : ℕ) (commit : ℕ) (peers : List Peer) (position next : ℕ) → commit < position → is_held ring me peers position ≡ false
    → next ≡ matched_below commit position peers
    → IfSome told (λ log. greatest (may_commit ring me term log peers) commit position ≡ count_of ring me term log commit peers)
    → IfSome told (λ log. greatest (may_commit ring me term log peers) commit next ≡ count_of ring me term log commit peers)
skips None ring me term commit peers position next h not_held is before = tt
skips (Some log) ring me term commit peers position next h not_held is before =
    let m = matched_below commit position peers in
    let below : m < position = matched_below-below commit position peers h in
    let none : (p : ℕ) → m < p → p ≤ position → may_commit ring me term log peers p ≡ false =
    λ p low up. unheld ring me term log peers p (same_held ring me commit position p peers up low not_held) in
    let test : ℕ → Bool = may_commit ring me term log peers in
    ap (greatest test commit) is ∙ (greatest-skip test commit m position (matched_below-up commit position peers) (omega arith) none ∙ before)

pub finds : (told : Option (List Entry)) (ring : Layout) (me term found : ℕ) (commit : ℕ) (peers : List Peer) (position : ℕ) → commit < position → is_held ring me peers position ≡ true
    → IfSome told (λ log. found ≡ term_at log position) → found ≡ term
    → IfSome told (λ log. greatest (may_commit ring me term log peers) commit position ≡ count_of ring me term log commit peers)
    → IfSome told (λ log. position ≡ count_of ring me term log commit peers)
finds None ring me term found commit peers position h held is same before = tt
finds (Some log) ring me term found commit peers position h held is same before =
    let test : ℕ → Bool = may_commit ring me term log peers in
    let at : (term_at log position == term) ≡ true = grind (arith, nat_tests) in
    greatest-found test commit position h (both (term_at log position == term) (is_held ring me peers position) at held) ∙ before

pub stops : (told : Option (List Entry)) (ring : Layout) (me term found n : ℕ) (commit : ℕ) (peers : List Peer) (position : ℕ) → commit < position → position ≤ n
    → IfSome told (λ log. length log ≡ n) → IfSome told (λ log. IsLog log) → IfSome told (λ log. (last log).term ≤ term)
    → IfSome told (λ log. found ≡ term_at log position) → found ≢ term
    → IfSome told (λ log. greatest (may_commit ring me term log peers) commit position ≡ count_of ring me term log commit peers)
    → IfSome told (λ log. commit ≡ count_of ring me term log commit peers)
stops None ring me term found n commit peers position h inside whole is_log below is other before = tt
stops (Some log) ring me term found n commit peers position h inside whole is_log below is other before =
    let test : ℕ → Bool = may_commit ring me term log peers in
    let here : position ≤ length log = omega arith in
    let top : term_at log position ≤ term_at log (length log) = is_log.rises position (length log) here (omega arith) in
    let top2 : term_at log position ≤ term = omega arith in
    let other2 : term_at log position ≢ term = λ e. other (is ∙ e) in
    let apart : term_at log position < term = grind (arith, nat_tests) in
    let none : (p : ℕ) → commit < p → p ≤ position → test p ≡ false =
    λ p low up. (let rises : term_at log p ≤ term_at log position = is_log.rises p position up here in
    only_if (term_at log p == term) (is_held ring me peers p) (grind (arith, nat_tests))) in
    greatest-low test commit commit (omega arith) ∙ (greatest-skip test commit commit position (omega arith) (omega arith) none ∙ before)

pub ends : (told : Option (List Entry)) (ring : Layout) (me term : ℕ) (commit : ℕ) (peers : List Peer) (position : ℕ) → position ≤ commit
    → IfSome told (λ log. greatest (may_commit ring me term log peers) commit position ≡ count_of ring me term log commit peers)
    → IfSome told (λ log. commit ≡ count_of ring me term log commit peers)
ends None ring me term commit peers position h before = tt
ends (Some log) ring me term commit peers position h before = greatest-low (may_commit ring me term log peers) commit position h ∙ before

-- a fact of a log that is told, for another view of it
pub same_told : (a b : Sight) (P : List Entry → Type 0) → a ≡ b → IfSome a.log P → IfSome b.log P
same_told a b P same h = subst (λ (s : Sight). IfSome s.log P) same h

pub whole_of : (told : Option (List Entry)) (end : Opid) (n : ℕ) → IfSome told (λ log. end ≡ last log) → end.position ≡ n → IfSome told (λ log. length log ≡ n)
whole_of None end n is at = tt
whole_of (Some log) end n is at = ap (λ (o : Opid). o.position) (sym is) ∙ at
