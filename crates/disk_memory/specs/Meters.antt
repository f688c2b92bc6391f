-- What a disk in memory counts, and which of its calls fail.
use Rattle.std.specs.Prelude.{◌≡◌, ◌≢◌, ℕ, ◌≤◌, nat_le, nat_lt, Bool, true, false, not, ◌&&◌, Option, Some, None, if◌then◌else◌}
use Rattle.edge_traits.specs.Counts.{next, Rose}
use Rattle.ring_types.specs.declared.entries.Keep.{Keep}
use Rattle.ring_types.specs.declared.entries.Keep.TheVariants as keep
use Rattle.ring_types.specs.declared.entries.CutAt.{CutAt}
use Rattle.ring_types.specs.declared.entries.CutAt.TheVariants as setting
use Rattle.disk_memory.specs.declared.meters.Meter.{Meter}

-- of a turn with so many calls: whether it has the call of its setting, so that the setting has made a call fail
abbrev pub reached : Option CutAt → ℕ → Bool
reached (Some (setting.Stop call k)) calls = nat_le 1 call && nat_le call calls
reached (Some (setting.Fail call)) calls = nat_le 1 call && nat_le call calls
reached None calls = false

abbrev pub is_reached : Meter → Bool
is_reached m = reached m.setting m.calls

-- whether the next call fails: the call of the setting, and after a stop all later ones until a crash
abbrev pub fails : Option CutAt → ℕ → Bool → Bool
fails (Some (setting.Stop call k)) calls ended = nat_le 1 call && (nat_le call (next calls) && not ended)
fails (Some (setting.Fail call)) calls ended = nat_lt calls call && nat_le call (next calls)
fails None calls ended = false

abbrev pub fails_next : Meter → Bool
fails_next m = fails m.setting m.calls m.ended

-- after the next call
abbrev pub ticked : Meter → Meter
ticked m = record m { calls = next m.calls; made = next m.made; faults = if fails_next m then next m.faults else m.faults }

-- at the beginning of a turn
abbrev pub begun : Option CutAt → Meter → Meter
begun s m = record m { setting = s; calls = 0; ended = false; faults_before = m.faults }

-- what a crash keeps: what the setting says, if it is a stop that has made a call fail and no crash has ended it
abbrev pub kept_by : Option CutAt → ℕ → Bool → Keep
kept_by (Some (setting.Stop call k)) calls ended = if nat_le 1 call && (nat_le call calls && not ended) then k else keep.Nothing
kept_by (Some (setting.Fail call)) calls ended = keep.Nothing
kept_by None calls ended = keep.Nothing

abbrev pub keeps : Meter → Keep
keeps m = kept_by m.setting m.calls m.ended

-- a crash ends a setting that has made a call fail
abbrev pub crashed_meter : Meter → Meter
crashed_meter m = record m { ended = if is_reached m then true else m.ended }

-- the setting has made a call fail exactly if a call of the turn failed, and only a crash after that has ended it
pub record IsSteady (m : Meter) : Type 0 where
  pub later : m.faults_before ≤ m.faults
  pub cause : m.faults ≢ m.faults_before → is_reached m ≡ true
  pub effect : is_reached m ≡ true → Rose m.faults_before m.faults
  pub over : m.ended ≡ true → is_reached m ≡ true
