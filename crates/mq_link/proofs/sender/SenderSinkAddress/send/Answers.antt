use Rattle.mq_link.proofs.Common.{◌≡◌, ℕ, Bool, false, length, ap, ◌∙◌, subst, refl, arith, take, IsTrue, Query, general_destination, common_steps}
use Rattle.std.specs.Prelude.{◌==◌, if◌then◌else◌}
use Rattle.mq_link.proofs.Lengths.{written_back}
use Rattle.mq_link.proofs.sender.SenderSinkAddress.send.Goals as goal

not_both : (b : Bool) → b ≡ false → IsTrue b → ⊥
not_both b is_false is_true = cc

pub returns-then-not-fits_one-clause-takes : goal.returns-then-not-fits_one-clause-takes
returns-then-not-fits_one-clause-takes g c =
    record {
      same_terms = refl;
      same_outlet = refl;
      hands = record {
        handed = λ fits. absurd (not_both c.fits_one.result c.if-not-fits_one.true (c.fits_one.ensures.1 fits));
        kept = λ more. refl;
      };
    }

pub returns-clause-takes : goal.returns-clause-takes
returns-clause-takes g c =
    let takes = g.O.QueryOutlet.takes in
    let before = c.args.self.now in
    let handed = c.hand_over.ensures in
    let written = c.write-fields.ensures in
    let to_of : Query ℕ → ℕ = λ q. if q.group == 0 then general_destination g.F.Family.FAMILY else q.group in
    let fits = c.fits_one.ensures.0 c.if-not-fits_one.false in
    let room = ap length c.as_mut_slice.ensures.value in
    let stored = ap (take c.write-fields.result.1) c.as_slice.ensures.value
    ∙ written_back _ _ c.from-out.result.items c.write-fields.new.out (omega (arith, written.within, written.len, room))
    (omega (arith, written.within, written.len, room)) in
    record {
      same_terms = handed.terms;
      same_outlet = handed.same_outlet;
      hands = record {
        handed = λ small. (
          c.hand_over.result,
          subst (λ m. takes before.outlet.now m c.hand_over.result c.hand_over.new.self.outlet.now)
              (λ i. record { to = to_of (written.fields i); query = written.fields i; bytes = (stored ∙ written.bytes) i }) handed.takes,
          handed.sent,
          handed.unsent,
        );
        kept = λ more. absurd (omega (arith, fits, more));
      };
    }

pub slice_bounds-hand_over-end : goal.slice_bounds-hand_over-end
slice_bounds-hand_over-end g c = grind (arith, common_steps)
