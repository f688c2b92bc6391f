-- The fields that bodies are made of. A field is cut where fewer bytes are left than it takes, as far as its first bytes tell.
use Rattle.std.specs.Prelude.{◌≡◌, ℕ, ◌*◌, ◌^◌, ◌<◌, ◌==◌, Bool, true, ◌&&◌, List, [], ◌∷◌, ◌++◌, length, take, drop, nat_lt, nat_le, bytes_eq, if◌then◌else◌}
use Rattle.std.specs.Int.{Width, w16, w32, w64, w128, byte_len, from_le_bytes, to_le_bytes, from_be_bytes, to_be_bytes}
use Rattle.std.specs.Str.{is_utf8}
use Rattle.event_frame.specs.Forms.{Found, Part, Cut, Wrong, Field}

-- this many bytes, whose value is told by them
abbrev pub taken : {X : Type 0} → ℕ → (List ℕ → Bool) → (List ℕ → X) → List ℕ → Found X
taken n allows value bytes = if nat_lt (length bytes) n then Cut else (if allows (take n bytes) then Part (value (take n bytes)) (drop n bytes) else Wrong)

-- one text alone
abbrev pub constant : List ℕ → Field (Unit {0})
constant text = record {
  at = taken (length text) (λ bytes. bytes_eq bytes text) (λ _. tt);
  spell = λ _. text;
  IsAllowed = λ _. Unit {0};
}

-- a number of a width, lowest byte first
abbrev pub number : Width → (ℕ → Bool) → Field ℕ
number w allows = record {
  at = taken (byte_len w) (λ bytes. allows (from_le_bytes w bytes)) (from_le_bytes w);
  spell = to_le_bytes w;
  IsAllowed = λ n. (n < 2 ^ (8 * byte_len w)) × (allows n ≡ true);
}

-- a server: 16 bytes, highest first
abbrev pub server : Field ℕ
server = record {
  at = taken 16 (λ _. true) (from_be_bytes w128);
  spell = to_be_bytes w128;
  IsAllowed = λ n. n < 2 ^ 128;
}

-- so many bytes
abbrev pub piece : ℕ → Field (List ℕ)
piece n = record {
  at = taken n (λ _. true) (λ bytes. bytes);
  spell = λ bytes. bytes;
  IsAllowed = λ bytes. length bytes ≡ n;
}

-- a text with its length before it, in one byte or two, of at most so many bytes
abbrev pub led : Width → (List ℕ → Bool) → List ℕ → List ℕ → Found (List ℕ)
led w allows lead bytes = taken (from_le_bytes w lead) allows (λ text. text) bytes

abbrev pub short_of : {X : Type 0} → ℕ → List ℕ → Found X → Found X
short_of n bytes found = if nat_lt (length bytes) n then Cut else found

abbrev pub text : Width → (List ℕ → Bool) → Field (List ℕ)
text w allows = record {
  at = λ bytes. short_of (byte_len w) bytes (led w allows (take (byte_len w) bytes) (drop (byte_len w) bytes));
  spell = λ bytes. to_le_bytes w (length bytes) ++ bytes;
  IsAllowed = λ bytes. (length bytes < 2 ^ (8 * byte_len w)) × (allows bytes ≡ true);
}

-- at most so many bytes of UTF-8
abbrev pub text_fits : ℕ → List ℕ → Bool
text_fits limit bytes = nat_le (length bytes) limit && is_utf8 bytes

-- no bytes, and a test
abbrev pub agrees : Bool → Field (Unit {0})
agrees test = record {
  at = λ bytes. if test then Part tt bytes else Wrong;
  spell = λ _. [];
  IsAllowed = λ _. test ≡ true;
}

-- a packed integer: one byte up to 250, else a mark and 2, 3 or 8 bytes; the shortest form alone
abbrev pub packed_text : ℕ → List ℕ
packed_text n =
    if nat_le n 250 then n ∷ []
    else if nat_lt n (2 ^ 16) then 252 ∷ to_le_bytes w16 n
    else if nat_lt n (2 ^ 24) then 253 ∷ take 3 (to_le_bytes w32 n)
    else 254 ∷ to_le_bytes w64 n

abbrev pub packed_behind : ℕ → List ℕ → Found ℕ
packed_behind mark rest =
    if nat_le mark 250 then Part mark rest
    else if mark == 252 then taken 2 (λ bytes. nat_le 251 (from_le_bytes w16 bytes)) (from_le_bytes w16) rest
    else if mark == 253 then taken 3 (λ bytes. nat_le (2 ^ 16) (from_le_bytes w32 (bytes ++ 0 ∷ []))) (λ bytes. from_le_bytes w32 (bytes ++ 0 ∷ [])) rest
    else if mark == 254 then taken 8 (λ bytes. nat_le (2 ^ 24) (from_le_bytes w64 bytes)) (from_le_bytes w64) rest
    else Wrong

abbrev pub packed_at : List ℕ → Found ℕ
packed_at [] = Cut
packed_at (mark ∷ rest) = packed_behind mark rest

abbrev pub packed : Field ℕ
packed = record {
  at = packed_at;
  spell = packed_text;
  IsAllowed = λ n. n < 2 ^ 64;
}
