use Rattle.mq_c.proofs.Common.{arith}
use Rattle.mq_c.proofs.OutletBytes.{told_in_64}
use Rattle.mq_c.proofs.bounds.outlet_bytes.Goals as goal

pub overflow_add-result-3 : goal.overflow_add-result-3
overflow_add-result-3 c = record {
  fits =
      told_in_64 c.from-width.result c.from-4.result c.from-3.result c.from-longest.result c.min-asking.result c.from-sources.result c.from-2.result
      (omega (arith, c.from-width.ensures, c.ranges.width.fits))
      (omega (arith, c.from-4.ensures, c.ranges.head.fits))
      (omega (arith, c.from-longest.ensures, c.ranges.longest.fits))
      (omega (arith, c.min-asking.ensures))
      (omega (arith, c.from-sources.ensures, c.ranges.sources.fits))
      (omega (arith, c.from-2.ensures, c.ranges.scheduled.fits));
}
