-- `turn_bytes::give` meets its contract. Assumes nothing.
use mathlib.Core.Path.{sym, ap₂, ◌∙◌}
use Prim.Native.Nat.{ℕ}
use Rattle.little_endian.proofs.Laws.{put_whole}
use Rattle.job_bytes.specs.Bytes.{record_bytes}
use Rattle.turn_bytes.specs.Turn.{report}
use Rattle.job_bytes.proofs.Laws.{length_record}
use Rattle.turn_bytes.proofs.give.Goals as goal

pub all_units-all-requires : goal.all_units-all-requires
all_units-all-requires c = c.requires.0

pub put_report-requires : goal.put_report-requires
put_report-requires c = c.requires.2

pub returns : goal.returns
returns c =
    let a = c.args in (
      c.unit_number.ensures,
      c.write.ensures ∙ put_whole (record_bytes a.turned.job) a.job.now (length_record a.turned.job ∙ sym c.requires.1),
      c.put_report.ensures ∙ ap₂ (λ (n m : ℕ). report n m a.turned.job.at) c.status_number.ensures c.all_units-all.ensures,
    )
