use Rattle.std.proofs.Common.{List, [], ap, subst, sym}
use Rattle.ring_types.specs.declared.entries.Entry.{Entry}
use Rattle.ring_types.specs.declared.entries.Place.{Place}
use Rattle.ring_types.specs.declared.schemas.Schema.{Schema}
use Rattle.binlog_store.specs.Held.{IsEnd}
use Rattle.binlog_store.proofs.held.HeldLog.new.Goals as goal

-- a schema: the empty log ends at one place for all
abbrev none : Schema
none = record { database = []; tables = [] }

pub returns-clause-held : goal.returns-clause-held
returns-clause-held c = λ schema. subst (λ (log : List Entry). IsEnd schema log c.in_ok-new.field-0) (sym c.new.ensures) (c.in_ok-new.ensures schema)

pub returns-clause-begun : goal.returns-clause-begun
returns-clause-begun c =
    let is = (c.in_ok-new.ensures none).place_is in
    (ap (λ (p : Place). p.file) is, ap (λ (p : Place). p.at) is)
