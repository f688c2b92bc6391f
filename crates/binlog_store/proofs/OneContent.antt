-- A content stands for one log at most: the control file says one point, up to it the files are the same, and a log is known by its files.
use Rattle.std.proofs.Common.{◌≡◌, ℕ, suc, List, [], ◌∷◌, length, take, Option, Some, None, sym, ap, ap₂, ◌∙◌, arith}
use Rattle.ring_types.specs.declared.entries.Entry.{Entry}
use Rattle.ring_types.specs.declared.schemas.Schema.{Schema}
use Rattle.edge_traits.specs.FileStates.{Contents}
use Rattle.edge_traits.specs.declared.disks.FileId.TheVariants as file
use Rattle.control_block.specs.ControlFiles.{control_of}
use Rattle.entry_group.specs.Files.{files}
use Rattle.entry_group.proofs.OneLog.{one_log}
use Rattle.binlog_store.specs.Laws.{OneLogAtMost}
use Rattle.binlog_store.specs.Stands.{LogHeld, LogRead, ReadsFiles, last_length, point_at}
use Rattle.binlog_store.specs.declared.points.LogPoint.{LogPoint}
use Rattle.binlog_store.proofs.PointBytes.{one_point}

-- files read from one content, as many and with ends at one place, are the same
one_files : (c : Contents) (n : ℕ) (a b : List (List ℕ)) → length a ≡ length b → last_length a ≡ last_length b → ReadsFiles c n a → ReadsFiles c n b → a ≡ b
one_files c n [] b same ends x y = absurd x
one_files c n (a ∷ []) [] same ends x y = absurd y
one_files c n (a ∷ []) (b ∷ []) same ends x y = ap (λ (z : List ℕ). z ∷ []) (sym x ∙ (ap (λ k. take k (c (file.Binlog n))) ends ∙ y))
one_files c n (a ∷ []) (b ∷ (d ∷ more)) same ends x y = absurd (omega (arith, same))
one_files c n (a ∷ (e ∷ rest)) [] same ends x y = absurd y
one_files c n (a ∷ (e ∷ rest)) (b ∷ []) same ends x y = absurd (omega (arith, same))
one_files c n (a ∷ (e ∷ rest)) (b ∷ (d ∷ more)) same ends x y =
    ap₂ (λ (z : List ℕ) (zs : List (List ℕ)). z ∷ zs) (sym x.0 ∙ y.0) (one_files c (suc n) (e ∷ rest) (d ∷ more) (omega (arith, same)) ends x.1 y.1)

held_log : (schema : Schema) (c : Contents) (bytes : List ℕ) (a b : List Entry) → LogHeld schema a c bytes → LogHeld schema b c bytes → a ≡ b
held_log schema c bytes a b x y =
    let p = one_point (point_at a (files schema a) x.highest) (point_at b (files schema b) y.highest) x.point_fits y.point_fits (sym x.point ∙ y.point) in
    one_log schema a b x.written.stand y.written.stand
    (one_files c 1 (files schema a) (files schema b) (ap (λ (q : LogPoint). q.file) p) (ap (λ (q : LogPoint). q.end) p) x.read y.read)

read_log : (schema : Schema) (c : Contents) (a b : List Entry) (said : Option (Option (List ℕ))) → LogRead schema a c said → LogRead schema b c said → a ≡ b
read_log schema c a b None x y = absurd x
read_log schema c a b (Some None) x y = x ∙ sym y
read_log schema c a b (Some (Some bytes)) x y = held_log schema c bytes a b x y

pub one_log_at_most : OneLogAtMost
one_log_at_most schema c a b x y = read_log schema c a b (control_of (c file.LogCtl)) x y
