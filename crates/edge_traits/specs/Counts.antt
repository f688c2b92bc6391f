use Rattle.std.specs.Prelude.{ℕ, ◌+◌, ◌-◌, ◌^◌, ◌≤◌, min}

-- the last value of a count, which is a u64
abbrev pub last_count : ℕ
last_count = 2 ^ 64 - 1

-- the count after one more; it stays at its last value
abbrev pub next : ℕ → ℕ
next n = min (n + 1) last_count

-- the count rose from the one to the other, or stands at its last value
abbrev pub Rose : ℕ → ℕ → Type 0
Rose before now = next before ≤ now
