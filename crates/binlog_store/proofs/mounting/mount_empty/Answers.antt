use Rattle.std.proofs.Common.{List, None, Option, ℕ, sym, ap, subst, ◌∙◌}
use Rattle.edge_traits.specs.declared.disks.FileId.TheVariants as id
use Rattle.edge_traits.proofs.Working.{disk_tells}
use Rattle.event_control.specs.ControlEvents.{head}
use Rattle.ring_types.specs.declared.entries.Entry.{Entry}
use Rattle.ring_types.specs.declared.gtid_sets.ServerSet.{ServerSet}
use Rattle.control_block.specs.Blocks.{Stands}
use Rattle.entry_group.specs.Files.{files, head_after, set_in_head}
use Rattle.binlog_store.specs.Mounted.{AreHeld, IsSaid}
use Rattle.binlog_store.proofs.EmptyMounts.{held_empty, keeps_empty, said_empty}
use Rattle.binlog_store.proofs.mounting.mount_empty.Goals as goal

pub returns-in_err-write_file-clause-keeps : goal.returns-in_err-write_file-clause-keeps
returns-in_err-write_file-clause-keeps g c told =
    keeps_empty g.D.Disk.files g.D.Disk.moment g.D.Disk.left_since
    (disk_tells g.met.D.Disk.reads_left g.met.D.Disk.counts_now g.met.D.Disk.only_now told) c.args.control c.requires.empty (c.requires.stands told) (c.write_file.ensures.crash told)

pub returns-clause-store : goal.returns-clause-store
returns-clause-store g c = λ schema. record {
  held = c.in_ok-held.ensures.held schema;
  said = subst (λ (b : Option (List ℕ)). IsSaid schema c.in_ok-held.held.entries 1 b) (sym c.requires.empty)
      (subst (λ (l : List Entry). IsSaid schema l 1 None) (sym c.in_ok-held.ensures.empty) (said_empty schema));
  control = c.requires.file;
}

pub returns-clause-mounted : goal.returns-clause-mounted
returns-clause-mounted g c told = λ schema.
    let empty = c.in_ok-held.ensures.empty in
    let set = (c.in_ok-held.ensures.held schema).set_is in
    let due = c.in_ok-head.ensures ∙ (ap (λ (s : List ServerSet). head (set_in_head s)) set ∙ ap head_after empty) in
    record {
      control = subst (Stands c.args.control) (sym ((c.write_file.ensures.crash told).elsewhere id.LogCtl (λ is. cc))) (c.requires.stands told);
      files = subst (λ (l : List Entry). AreHeld (g.D.Disk.files c.write_file.new.disk) 1 (files schema l)) (sym empty)
          (held_empty schema (g.D.Disk.files c.write_file.new.disk) _ (c.in_ok-write_file.ensures.here told) (c.as_slice.ensures.value ∙ due));
    }

pub returns-clause-keeps : goal.returns-clause-keeps
returns-clause-keeps g c told =
    keeps_empty g.D.Disk.files g.D.Disk.moment g.D.Disk.left_since
    (disk_tells g.met.D.Disk.reads_left g.met.D.Disk.counts_now g.met.D.Disk.only_now told) c.args.control c.requires.empty (c.requires.stands told) (c.write_file.ensures.crash told)
