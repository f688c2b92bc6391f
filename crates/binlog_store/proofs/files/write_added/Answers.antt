use Rattle.std.proofs.Common.{◌∙◌, arith}
use Rattle.edge_traits.specs.declared.disks.FileId.TheVariants as id
use Rattle.binlog_store.proofs.BehindTheEnd.{first_works, then_others}
use Rattle.binlog_store.proofs.FileReads.{same_number}
use Rattle.binlog_store.proofs.HandedOn.{ok_more}
use Rattle.binlog_store.proofs.files.write_added.Goals as goal

pub returns-in_err-extend_file-clause-crash : goal.returns-in_err-extend_file-clause-crash
returns-in_err-extend_file-clause-crash g c told = first_works c.args.number c.args.at _ (c.extend_file.ensures.crash told)

pub returns-clause-crash : goal.returns-clause-crash
returns-clause-crash g c told =
    then_others c.args.number c.args.at _ _ (c.requires.ends told).long (c.extend_file.ensures.crash told) (c.in_ok-extend_file.ensures.here told)
    (c.write_files.ensures.crash (c.extend_file.ensures.tells ∙ told))

pub returns-clause-above : goal.returns-clause-above
returns-clause-above g c told =
    ok_more c.write_files.result (c.write_files.ensures.above (c.extend_file.ensures.tells ∙ told))
    (λ above n least.
    above n (omega (arith, least, c.in-len1-up.len_at_least))
    ∙ (c.extend_file.ensures.crash told).elsewhere (id.Binlog n) (λ is. absurd (omega (arith, same_number n c.args.number is, least, c.in-len1-up.len_at_least))))
