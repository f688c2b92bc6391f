-- The events that stand around transactions, and what reading one at the front of some bytes means: first the frame
-- is tested, then the type and the flags, then the body.
use Rattle.std.specs.Prelude.{ℕ, ◌+◌, ◌==◌, ◌&&◌, List, ◌∷◌, ◌++◌, take, drop, codes, Result, Ok, Err, if◌then◌else◌}
use Rattle.event_frame.specs.Forms.{Form, and_then, found, body_of}
use Rattle.event_frame.specs.Fields.{constant}
use Rattle.event_frame.specs.Events.{event, event_at}
use Rattle.event_frame.specs.declared.frames.Event.{Event}
use Rattle.event_frame.specs.declared.frames.FrameError.{FrameError}
use Rattle.ring_types.specs.declared.entries.Opid.{Opid}
use Rattle.event_control.specs.declared.due_events.TheConstants.{ROTATE, FORMAT_DESCRIPTION, IGNORABLE, PREVIOUS_GTIDS, MAY_IGNORE}
use Rattle.event_control.specs.declared.faults.ControlError.{ControlError}
use Rattle.event_control.specs.declared.faults.ControlError.TheVariants.{Frame, Kind, Body}
use Rattle.event_control.specs.declared.heads.Head.{Head}
use Rattle.event_control.specs.declared.rotations.Rotation.{Rotation}
use Rattle.event_control.specs.declared.opid_events.OpidEvent.{OpidEvent}
use Rattle.event_control.specs.Bodies.{format_form, format_body, rotate_form, rotate_body, opid_form, opid_body}

-- ---- what is written

-- the first bytes of each file
abbrev pub magic : List ℕ
magic = 254 ∷ codes "bin"

-- the magic ends at 4, and FORMAT_DESCRIPTION at 126
abbrev pub head : List ℕ → List ℕ
head previous = magic ++ event FORMAT_DESCRIPTION 0 format_body 4 ++ event PREVIOUS_GTIDS MAY_IGNORE previous 126

abbrev pub rotate_event : ℕ → ℕ → List ℕ
rotate_event next_file at = event ROTATE 0 (rotate_body next_file) at

abbrev pub opid_event : ℕ → Opid → ℕ → ℕ → List ℕ
opid_event kind opid region at = event IGNORABLE MAY_IGNORE (opid_body kind opid region) at

-- ---- what is read

abbrev pub framed : Result Event FrameError → Result Event ControlError
framed (Ok e) = Ok e
framed (Err fault) = Err (Frame fault)

abbrev pub of_kind : ℕ → ℕ → Event → Result Event ControlError
of_kind kind flags e = if e.kind == kind && e.flags == flags then Ok e else Err Kind

-- an event of this type with these flags
abbrev pub due_at : ℕ → ℕ → List ℕ → ℕ → Result Event ControlError
due_at kind flags bytes at = and_then (framed (event_at bytes at)) (of_kind kind flags)

abbrev pub body_in : Event → List ℕ → List ℕ
body_in e bytes = take e.body_len (drop e.body_at bytes)

-- an event of this type with these flags and a body of this form: what the body says, and the event's size
abbrev pub said_at : {A : Type 0} → ℕ → ℕ → Form ControlError A → List ℕ → ℕ → Result (A × ℕ) ControlError
said_at kind flags form bytes at =
    and_then (due_at kind flags bytes at) (λ e. and_then (body_of Body form (body_in e bytes)) (λ said. Ok (said, e.size)))

-- the magic; FORMAT_DESCRIPTION; PREVIOUS_GTIDS with any body
abbrev pub head_at : List ℕ → Result Head ControlError
head_at bytes =
    and_then (found Body Body ((constant magic).at bytes)) (λ m.
    and_then (said_at FORMAT_DESCRIPTION 0 format_form m.1 4) (λ f.
    and_then (due_at PREVIOUS_GTIDS MAY_IGNORE (drop f.1 m.1) (4 + f.1)) (λ e.
    Ok (record { previous_at = 4 + f.1 + e.body_at; previous_len = e.body_len; size = 4 + f.1 + e.size }))))

abbrev pub rotation_at : List ℕ → ℕ → Result Rotation ControlError
rotation_at bytes at = and_then (said_at ROTATE 0 rotate_form bytes at) (λ r. Ok (record { next_file = r.0; size = r.1 }))

abbrev pub opid_event_at : List ℕ → ℕ → Result OpidEvent ControlError
opid_event_at bytes at =
    and_then (said_at IGNORABLE MAY_IGNORE opid_form bytes at) (λ o. Ok (record { kind = o.0.0; opid = o.0.1; region = o.0.2; size = o.1 }))
