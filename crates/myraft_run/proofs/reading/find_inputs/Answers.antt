use Rattle.std.proofs.Common.{map, rules, string_bytes}
use Rattle.myraft_run.specs.Spans.{shelf_span}
use Rattle.myraft_run.proofs.Answering.{finds_named, finds_unnamed}
use Rattle.myraft_run.proofs.reading.find_inputs.Goals as goal

pub returns : goal.returns
returns g c =
    let s = g.H.Shelf in
    finds_named (map string_bytes c.args.words.now) (shelf_span s.files s.faults c.args.shelf.now c.with_names.new.shelf) c.in_ok-names.names c.with_names.result c.in_ok-names.ensures c.with_names.ensures

pub returns-in_err-names : goal.returns-in_err-names
returns-in_err-names g c =
    let s = g.H.Shelf in
    let h = finds_unnamed (map string_bytes c.args.words.now) (shelf_span s.files s.faults c.args.shelf.now c.args.shelf.now) c.in_err-names.field-0.0 c.in_err-names.ensures in
    search rules
