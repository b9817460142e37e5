-- Calls that are done.
use Rattle.mq_c.proofs.Common.{◌≡◌, ℕ, ◌≤◌, ◌^◌, Bool, sym, ap, ◌∙◌, ◌&&◌}
use Rattle.std.proofs.lemmas.Bool.{le-leb}
use Rattle.mq_c.specs.Calls.{is_done}

-- at a moment in range, a call is done in each workspace that suffices
pub done_in_range : (done suffices : Bool) (now : ℕ) → now ≤ 2 ^ 53 → done ≡ suffices → done ≡ is_done suffices now
done_in_range done suffices now in_range is = is ∙ sym (ap (λ b. b && suffices) (le-leb now (2 ^ 53) in_range))
