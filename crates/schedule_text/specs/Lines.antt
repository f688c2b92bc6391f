-- The forms of a line.
use Rattle.std.specs.Prelude.{ℕ, ◌==◌, Bool, true, List, [], ◌∷◌, bytes_eq, codes, if◌then◌else◌, Option, Some, None}
use Rattle.std.specs.Str.{is_utf8}
use Rattle.ring_model.specs.declared.messages.Input.TheVariants as input
use Rattle.ring_model.specs.declared.worlds.Line.{Line}
use Rattle.ring_model.specs.declared.worlds.Line.TheVariants as line
use Rattle.ring_types.specs.declared.entries.CutAt.{CutAt}
use Rattle.schedule_text.specs.Cutting.{Word, words, parts, first_of}
use Rattle.schedule_text.specs.Numbers.{number_of, node_of}
use Rattle.schedule_text.specs.Changes.{cut_of, changes_of}
use Rattle.schedule_text.specs.Reading.{◌>>=◌, provided, ended}

-- what a line says: its event without the line's number
abbrev pub Said : Type 0
Said = Line × Option CutAt

-- an input at a node, from client 0
abbrev pub input_of : Word → ℕ → Option Line
input_of verb node =
    if bytes_eq verb (codes "elect") then Some (line.At node input.Elect)
    else (if bytes_eq verb (codes "beat") then Some (line.At node input.Beat)
    else (if bytes_eq verb (codes "rotate") then Some (line.At node (input.Rotate 0))
    else (if bytes_eq verb (codes "cancel") then Some (line.At node (input.Cancel 0)) else None)))

-- what else is done at a node
abbrev pub act_of : Word → ℕ → Option Line
act_of verb node =
    if bytes_eq verb (codes "next") then Some (line.Next node)
    else (if bytes_eq verb (codes "skip") then Some (line.Skip node)
    else (if bytes_eq verb (codes "again") then Some (line.Again node)
    else (if bytes_eq verb (codes "restart") then Some (line.Restart node) else input_of verb node)))

-- a verb and a node's number
unfoldable pub at_node : Word → Word → List Word → Option Said
at_node verb number ws = do
  node ← node_of number
  what ← act_of verb node
  cut ← cut_of ws
  Some (what, cut)

-- a crash takes no suffix
unfoldable pub crash_of : Word → List Word → Option Said
crash_of number ws = do
  node ← node_of number
  none ← ended ws
  Some (line.Crash node, None)

unfoldable pub give_of : Word → List Word → Option Said
give_of number ws = do
  message ← number_of number
  cut ← cut_of ws
  Some (line.Give message, cut)

unfoldable pub transfer_of : Word → List Word → Option Said
transfer_of number ws = do
  node ← node_of number
  second ← first_of ws
  target ← node_of second.0
  cut ← cut_of second.1
  Some (line.At node (input.Transfer 0 target), cut)

unfoldable pub write_of : Word → List Word → List (List ℕ) → Option Said
write_of number ws more = do
  node ← node_of number
  changes ← changes_of ws more
  Some (line.At node (input.Write 0 changes.0), changes.1)

-- a form of one part: its verb, its number, and the words behind them
unfoldable pub short_of : Word → Word → List Word → Option Said
short_of verb number ws =
    if bytes_eq verb (codes "crash") then crash_of number ws
    else (if bytes_eq verb (codes "deliver") then give_of number ws
    else (if bytes_eq verb (codes "transfer") then transfer_of number ws
    else at_node verb number ws))

-- a form whose first part has these words, with the further parts; only a write has any
unfoldable pub form_of : List Word → List (List ℕ) → Option Said
form_of ws more = do
  verb ← first_of ws
  number ← first_of verb.1
  if bytes_eq verb.0 (codes "write") then write_of number.0 number.1 more else (ended more >>= λ none. short_of verb.0 number.0 number.1)

unfoldable pub said_of : List ℕ → Option Said
said_of text = do
  part ← first_of (parts text)
  form_of (words part.0) part.1

-- an empty line, or a comment
abbrev pub is_silent : List ℕ → Bool
is_silent [] = true
is_silent (b ∷ bs) = b == 35

-- what a line stands for: no event or one; None where it has no form
unfoldable pub line_of : List ℕ → Option (Option Said)
line_of text = do
  whole ← provided (is_utf8 text)
  if is_silent text then Some None else (said_of text >>= λ said. Some (Some said))
