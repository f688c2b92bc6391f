-- What a writer keeps of what another put, it keeps of what stood before: appending is associative.
use Rattle.std.proofs.Common.{◌≡◌, ℕ, List, [], ◌++◌, length, take, refl, sym, ap, ◌∙◌, append_assoc}
use Rattle.std.proofs.lemmas.List.{append-nil, take_at}
use Rattle.event_txn.specs.Writing.{Keeps}

pub kept_same : (old new : List ℕ) → new ≡ old → Keeps old new
kept_same old new e = record { more = []; parts = e ∙ sym (append-nil old) }

pub kept_more : (old text new : List ℕ) → new ≡ old ++ text → Keeps old new
kept_more old text new e = record { more = text; parts = e }

pub kept_behind : (old text mid new : List ℕ) → mid ≡ old ++ text → Keeps mid new → Keeps old new
kept_behind old text mid new e k = record { more = text ++ k.more; parts = k.parts ∙ ap (λ (x : List ℕ). x ++ k.more) e ∙ append_assoc old text k.more }

pub kept_on : (old mid new : List ℕ) → Keeps old mid → Keeps mid new → Keeps old new
kept_on old mid new j k = kept_behind old j.more mid new j.parts k

pub kept_front : (old new : List ℕ) → Keeps old new → take (length old) new ≡ old
kept_front old new k = ap (take (length old)) k.parts ∙ take_at old k.more (length old) refl
