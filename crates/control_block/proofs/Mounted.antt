-- The block that is read from a file is the one that it stands for.
use Rattle.std.proofs.Common.{◌≡◌, ℕ, List, Some, None, Result, Ok, Err, ◌∙◌, ap, subst, sym}
use Rattle.std.specs.Prelude.{option_map, IfOk}
use Rattle.edge_traits.specs.FileStates.{FileState, Files, MayLeave}
use Rattle.edge_traits.specs.declared.disks.FileId.{FileId}
use Rattle.edge_traits.proofs.FileStates.{settled_only}
use Rattle.control_block.specs.ControlFiles.{content_of, head_of, winner, winner_of, control_of}
use Rattle.control_block.specs.Blocks.{Stands, IsLaidOut, place_of}
use Rattle.control_block.specs.declared.blocks.ControlBlock.{ControlBlock}
use Rattle.control_block.specs.declared.heads.Head.{Head}
use Rattle.control_block.specs.declared.slots.Winner.TheVariants as w
use Rattle.control_block.proofs.Winners.{laid_out, old_kept}

-- what a file stands for that stands for a block
pub stands_for : (block : ControlBlock) (file : FileState) → Stands block file → control_of file.bytes ≡ Some block.bytes
stands_for block file stands = old_kept (place_of block.second) block.tag block.bytes file.bytes stands.keeps stands.yields

pub winner_read : (file mid : FileState) (first second : Head) → first ≡ head_of 0 file.bytes → second ≡ head_of 32776 mid.bytes → mid ≡ file
    → winner_of file.bytes ≡ winner first.open_gate first.tag second.open_gate second.tag
winner_read file mid first second one two same =
    let two_here : second ≡ head_of 32776 file.bytes = two ∙ ap (λ (f : FileState). head_of 32776 f.bytes) same in
    sym (λ i. winner (one i).open_gate (one i).tag (two_here i).open_gate (two_here i).tag)

module _ (file : FileState) (laid : IsLaidOut file) where
  pub damaged_first : winner_of file.bytes ≡ w.First → content_of 0 file.bytes ≡ None → control_of file.bytes ≡ None
  damaged_first is none = laid_out file.bytes w.First laid.1 is ∙ ap (option_map Some) none

  pub damaged_second : winner_of file.bytes ≡ w.Second → content_of 32776 file.bytes ≡ None → control_of file.bytes ≡ None
  damaged_second is none = laid_out file.bytes w.Second laid.1 is ∙ ap (option_map Some) none

  pub damaged_unclear : winner_of file.bytes ≡ w.Unclear → control_of file.bytes ≡ None
  damaged_unclear is = laid_out file.bytes w.Unclear laid.1 is

-- and while nothing is written a crash leaves nothing else
pub stands_left : (block : ControlBlock) (file : FileState) → Stands block file → (left : List ℕ) → MayLeave file left → control_of left ≡ Some block.bytes
stands_left block file stands left may = ap control_of (settled_only file.bytes left (subst (λ f. MayLeave f left) stands.synced may))
    ∙ stands_for block file stands

-- a block that stands for a file stands for its own
pub own_file : {F : Type 0} (r : Result ControlBlock F) (files : Files) (file : FileId) → IfOk r (λ block. Stands block (files file))
    → IfOk r (λ block. block.file ≡ file) → IfOk r (λ block. Stands block (files block.file))
own_file (Ok block) files file stands is = subst (λ f. Stands block (files f)) (sym is) stands
own_file (Err fault) files file stands is = tt
