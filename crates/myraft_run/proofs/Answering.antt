-- What the shelf answered, and what is to be run by it.
use Rattle.std.proofs.Common.{◌≡◌, ℕ, ◌≤◌, ◌⊎◌, inl, inr, List, length, IfSome, IfOk, Option, Some, None, Result, Ok, Err, refl, sym, ap, subst, true, false, ◌∙◌, arith}
use Rattle.std.specs.Prelude.{nat_lt}
use Rattle.std.proofs.lemmas.Bool.Decides.{nat_tests}
use Rattle.edge_traits.specs.Counts.{Rose}
use Rattle.edge_traits.specs.Fetches.{FetchIs, FetchFails}
use Rattle.edge_traits.specs.declared.shelves.FetchError.{FetchError}
use Rattle.edge_traits.specs.declared.shelves.FetchError.TheVariants as fetch
use Rattle.ring_types.specs.Rings.{IsRing, Layout}
use Rattle.ring_file.specs.Documents.{ring_of}
use Rattle.myraft_run.specs.declared.inputs.Inputs.{Inputs}
use Rattle.myraft_run.specs.declared.words.Names.{Names}
use Rattle.myraft_run.specs.declared.stops.Stop.{Stop}
use Rattle.myraft_run.specs.declared.stops.File.TheVariants as file
use Rattle.myraft_run.specs.Words.{names_of}
use Rattle.myraft_run.specs.Inputs.{◌>>=◌, Gives, GivesOne, got, inputs_from, inputs_with, ring_limit, ring_or_fault, schedule_limit}
use Rattle.myraft_run.specs.Replays.{Ends, Replays}
use Rattle.myraft_run.specs.Spans.{Files, ShelfIsSteady, ShelfSpan}
use Rattle.myraft_run.specs.Command.{Answered, ComesTo, Held, told_answer}
use Rattle.myraft_run.specs.Parts.{Fetches, Finds, FindsFromNames, FindsFromRing, FindsInputs, Works}
use Rattle.myraft_run.proofs.Binding.{gives-err, gives-next, gives-or, gives-same, gives-stopped}

free-told : (files : Files) (name : List ℕ) (limit : ℕ) → IfSome files (λ f. FetchIs (f name) limit (Err fetch.Memory))
free-told None name limit = tt
free-told (Some f) name limit = tt

-- a fetch that was not made may be taken for one without memory
pub free : (shelf : ShelfSpan) (name : List ℕ) (limit : ℕ) → Answered shelf name limit (Err fetch.Memory)
free shelf name limit = record { told = free-told shelf.files name limit; within = tt; failed = tt }

fails-wider : (a b : ShelfSpan) (answer : Result (List ℕ) FetchError) → b.before ≤ a.before → a.after ≤ b.after → FetchFails a.before a.after answer → FetchFails b.before b.after answer
fails-wider a b (Ok bytes) low high h = tt
fails-wider a b (Err fetch.Failed) low high h = omega (arith, h)
fails-wider a b (Err fetch.Absent) low high h = tt
fails-wider a b (Err fetch.TooLarge) low high h = tt
fails-wider a b (Err fetch.Memory) low high h = tt

-- an answer in a stretch of the run is one of the run
pub wider : (a b : ShelfSpan) (name : List ℕ) (limit : ℕ) (answer : Result (List ℕ) FetchError) → a.files ≡ b.files → b.before ≤ a.before → a.after ≤ b.after → Answered a name limit answer → Answered b name limit answer
wider a b name limit answer same low high x =
    let P : Files → Type 0 = λ files. IfSome files (λ f. FetchIs (f name) limit answer) in
    record { told = subst P same x.told; within = x.within; failed = fails-wider a b answer low high x.failed }

-- ---- from the steps to the whole
finds : (words : List (List ℕ)) (shelf : ShelfSpan) (names : Names) (ring_answer schedule_answer : Result (List ℕ) FetchError) (wanted : Result Inputs Stop) → names_of words ≡ Ok names
    → Answered shelf names.ring ring_limit ring_answer → Answered shelf names.schedule schedule_limit schedule_answer → inputs_from ring_answer schedule_answer ≡ wanted → FindsInputs words shelf wanted
finds words shelf names ra sa wanted named r s e =
    let P : Names → Type 0 = λ n. Answered shelf n.ring ring_limit ra in
    let Q : Names → Type 0 = λ n. Answered shelf n.schedule schedule_limit sa in
    let f : Result Names Stop → Result Inputs Stop = λ n. n >>= λ m. inputs_from ra sa in
    record {
      ring_answer = ra;
      schedule_answer = sa;
      ring_answered = λ n is. let same : names ≡ n = cc in subst P same r;
      schedule_answered = λ n is. let same : names ≡ n = cc in subst Q same s;
      comes = ap f named ∙ e;
    }

pub finds_named : (words : List (List ℕ)) (shelf : ShelfSpan) (names : Names) (result : Result Inputs Stop) → names_of words ≡ Ok names → FindsFromNames names shelf result → Finds words shelf result
finds_named words shelf names result named w =
    gives-or (λ x. inputs_from w.ring_answer w.schedule_answer ≡ x) (FindsInputs words shelf) result (λ x e. finds words shelf names w.ring_answer w.schedule_answer x named w.ring_answered w.schedule_answered e) w.gives

-- the words stopped the work
pub finds_unnamed : (words : List (List ℕ)) (shelf : ShelfSpan) (e : Stop) → Gives (names_of words) (Err e) → Finds words shelf (Err e)
finds_unnamed words shelf e h =
    let f : Names → Result Inputs Stop = λ names. inputs_from (Err fetch.Memory) (Err fetch.Memory) in
    let wanted : Result Inputs Stop = names_of words >>= f in
    let result : Result Inputs Stop = Err e in
    gives-or (λ x. wanted ≡ x) (FindsInputs words shelf) result
    (λ x is. record {
      ring_answer = Err fetch.Memory;
      schedule_answer = Err fetch.Memory;
      ring_answered = λ n named. free shelf n.ring ring_limit;
      schedule_answered = λ n named. free shelf n.schedule schedule_limit;
      comes = is;
    })
    (gives-stopped (names_of words) f e h)

-- the ring's file was not fetched
pub unfetched : (names : Names) (part whole : ShelfSpan) (e : Stop) → part.files ≡ whole.files → whole.before ≤ part.before → part.after ≤ whole.after → Fetches part names.ring ring_limit file.Ring (Err e) → FindsFromNames names whole (Err e)
unfetched names part whole e same low high f =
    let P : Result (List ℕ) Stop → Type 0 = λ r. Gives r (Err e) in
    let here : Result (List ℕ) Stop = Err e in
    let on_bytes : List ℕ → Result Inputs Stop = λ bytes. ring_or_fault (ring_of bytes) >>= (λ (ring : Layout). got file.Schedule (Err fetch.Memory) >>= inputs_with ring) in
    record {
      ring_answer = f.answer;
      schedule_answer = Err fetch.Memory;
      ring_answered = wider part whole names.ring ring_limit f.answer same low high f.answered;
      schedule_answered = free whole names.schedule schedule_limit;
      gives = gives-stopped (got file.Ring f.answer) on_bytes e (subst P f.gives (gives-same here));
    }

-- the ring's file is no ring
pub unread : (names : Names) (part whole : ShelfSpan) (bytes : List ℕ) (e : Stop) → part.files ≡ whole.files → whole.before ≤ part.before → part.after ≤ whole.after → Fetches part names.ring ring_limit file.Ring (Ok bytes)
    → Gives (ring_or_fault (ring_of bytes)) (Err e) → FindsFromNames names whole (Err e)
unread names part whole bytes e same low high f h =
    let on_ring : Layout → Result Inputs Stop = λ ring. got file.Schedule (Err fetch.Memory) >>= inputs_with ring in
    let on_bytes : List ℕ → Result Inputs Stop = λ b. ring_or_fault (ring_of b) >>= on_ring in
    let result : Result Inputs Stop = Err e in
    record {
      ring_answer = f.answer;
      schedule_answer = Err fetch.Memory;
      ring_answered = wider part whole names.ring ring_limit f.answer same low high f.answered;
      schedule_answered = free whole names.schedule schedule_limit;
      gives = gives-next (got file.Ring f.answer) on_bytes bytes result (sym f.gives) (gives-stopped (ring_or_fault (ring_of bytes)) on_ring e h);
    }

-- the ring's file is a ring, and the schedule's part comes after it
pub ring_then : (names : Names) (first second whole : ShelfSpan) (bytes : List ℕ) (ring : Layout) (result : Result Inputs Stop) → first.files ≡ whole.files → second.files ≡ whole.files
    → whole.before ≤ first.before → first.after ≤ second.before → second.after ≤ whole.after → second.before ≤ second.after → Fetches first names.ring ring_limit file.Ring (Ok bytes)
    → Gives (ring_or_fault (ring_of bytes)) (Ok ring) → FindsFromRing ring names.schedule second result → first.before ≤ first.after → FindsFromNames names whole result
ring_then names first second whole bytes ring result same also low mid high up f r w rose =
    let on_ring : Layout → Result Inputs Stop = λ l. got file.Schedule w.answer >>= inputs_with l in
    let on_bytes : List ℕ → Result Inputs Stop = λ b. ring_or_fault (ring_of b) >>= on_ring in
    record {
      ring_answer = f.answer;
      schedule_answer = w.answer;
      ring_answered = wider first whole names.ring ring_limit f.answer same low (omega (arith, mid, up, high)) f.answered;
      schedule_answered = wider second whole names.schedule schedule_limit w.answer also (omega (arith, low, rose, mid)) high w.answered;
      gives = gives-next (got file.Ring f.answer) on_bytes bytes result (sym f.gives) (gives-next (ring_or_fault (ring_of bytes)) on_ring ring result r w.gives);
    }

-- ---- bytes that were fetched
held-told : (files : Files) (name : List ℕ) (limit : ℕ) (bytes : List ℕ) → IfSome files (λ f. FetchIs (f name) limit (Ok bytes)) → IfSome files (λ f. f name ≡ Some bytes)
held-told None name limit bytes h = tt
held-told (Some f) name limit bytes h = h

-- are those that the shelf tells
pub held-by : (shelf : ShelfSpan) (name : List ℕ) (limit : ℕ) (a : Result (List ℕ) FetchError) (bytes : List ℕ) → a ≡ Ok bytes → Answered shelf name limit a → IfSome shelf.files (λ f. f name ≡ Some bytes)
held-by shelf name limit a bytes is w =
    let P : Result (List ℕ) FetchError → Type 0 = λ r. IfSome shelf.files (λ f. FetchIs (f name) limit r) in
    held-told shelf.files name limit bytes (subst P is w.told)

-- and are within the limit
pub within_by : (shelf : ShelfSpan) (name : List ℕ) (limit : ℕ) (a : Result (List ℕ) FetchError) (bytes : List ℕ) → a ≡ Ok bytes → Answered shelf name limit a → length bytes ≤ limit
within_by shelf name limit a bytes is w =
    let P : Result (List ℕ) FetchError → Type 0 = λ r. IfOk r (λ b. length b ≤ limit) in
    subst P is w.within

-- ---- a shelf that tells its files and does not fail
told-ok : (file : Option (List ℕ)) (limit : ℕ) (bytes : List ℕ) → file ≡ Some bytes → length bytes ≤ limit → told_answer file limit ≡ Ok bytes
told-ok None limit bytes is fits = absurd cc
told-ok (Some b) limit bytes is fits =
    let e : b ≡ bytes = cc in
    let small : nat_lt limit (length b) ≡ false = (let z = ap length e in grind (arith, nat_tests, z, fits)) in
    rw small (ap Ok e)

told-large : (file : Option (List ℕ)) (limit : ℕ) → FetchIs file limit (Err fetch.TooLarge) → told_answer file limit ≡ Err fetch.TooLarge
told-large None limit h = absurd h
told-large (Some b) limit h = let big : nat_lt limit (length b) ≡ true = grind (arith, nat_tests, h) in rw big refl

answer-of : (file : Option (List ℕ)) (before after limit : ℕ) (a : Result (List ℕ) FetchError) → (Rose before after → ⊥) → FetchIs file limit a → IfOk a (λ b. length b ≤ limit) → FetchFails before after a
    → (a ≡ told_answer file limit) ⊎ (a ≡ Err fetch.Memory)
answer-of file before after limit (Ok b) steady told within failed = inl (sym (told-ok file limit b told within))
answer-of file before after limit (Err fetch.Memory) steady told within failed = inr refl
answer-of file before after limit (Err fetch.Failed) steady told within failed = absurd (steady failed)
answer-of file before after limit (Err fetch.Absent) steady told within failed = inl (sym (ap (λ o. told_answer o limit) told))
answer-of file before after limit (Err fetch.TooLarge) steady told within failed = inl (sym (told-large file limit told))

-- answers as its files have it, unless memory ran out
pub answer-is : (shelf : ShelfSpan) (f : List ℕ → Option (List ℕ)) (name : List ℕ) (limit : ℕ) (a : Result (List ℕ) FetchError) → shelf.files ≡ Some f → ShelfIsSteady shelf → Answered shelf name limit a → (a ≡ told_answer (f name) limit) ⊎ (a ≡ Err fetch.Memory)
answer-is shelf f name limit a is steady w =
    let P : Files → Type 0 = λ files. IfSome files (λ g. FetchIs (g name) limit a) in
    answer-of (f name) shelf.before shelf.after limit a steady (subst P is w.told) w.within w.failed

pub held-answer : (f : List ℕ → Option (List ℕ)) (name : List ℕ) (limit : ℕ) (bytes : List ℕ) → Held (Some f) name limit bytes → told_answer (f name) limit ≡ Ok bytes
held-answer f name limit bytes h = told-ok (f name) limit bytes h.0 h.1

-- ---- the work, from what is to be run and how it ended
comes : (words : List (List ℕ)) (shelf : ShelfSpan) (found : Result Inputs Stop) (end : Result (List ℕ) Stop) → FindsInputs words shelf found → Ends found end → ComesTo words shelf end
comes words shelf found end f e =
    let P : Result Inputs Stop → Type 0 = λ i. Ends i end in
    record { ring_answer = f.ring_answer; schedule_answer = f.schedule_answer; ring_answered = f.ring_answered; schedule_answered = f.schedule_answered; ends = subst P (sym f.comes) e }

pub works_found : (words : List (List ℕ)) (shelf : ShelfSpan) (inputs : Inputs) (result : Result (List ℕ) Stop) → Finds words shelf (Ok inputs) → IsRing inputs.ring → GivesOne (Replays inputs.ring inputs.events) result → Works words shelf result
works_found words shelf inputs result f valid h = gives-or (Replays inputs.ring inputs.events) (ComesTo words shelf) result (λ end r. comes words shelf (Ok inputs) end f (valid, r)) h

pub works_stopped : (words : List (List ℕ)) (shelf : ShelfSpan) (e : Stop) → Finds words shelf (Err e) → Works words shelf (Err e)
works_stopped words shelf e f = gives-err (FindsInputs words shelf) (ComesTo words shelf) e (λ s x. comes words shelf (Err s) (Err s) x refl) f
