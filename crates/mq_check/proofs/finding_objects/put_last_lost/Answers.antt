use Rattle.mq_check.proofs.Common.{◌≡◌, ◌∙◌, ap, sym, refl, Bool, false, if◌then◌else◌, codes, List, ℕ, ◌++◌, at_moment, last_lost, querier_object}
use Rattle.std.proofs.lemmas.Bool.{ne_eqb}
use Rattle.mq_check.{specs.FindingLines.again_object, proofs.Texts.five_parts}
use Rattle.mq_check.proofs.finding_objects.put_last_lost.Goals as goal

otherwise : {test : Bool} (first second : List ℕ) → test ≡ false → (if test then first else second) ≡ second
otherwise {test} first second is = rw is refl

pub returns-clause-text : goal.returns-clause-text
unfolding last_lost
returns-clause-text c =
    let basis = c.args.basis.now in
    rw (
      c.put_again_object.ensures.text,
      c.put-3.ensures.text,
      c.put_querier_object.ensures.text,
      c.put_moment.ensures.text,
      c.put-2.ensures.text,
    ) (five_parts c.args.text.now.items (codes ",\"last_at\":") (at_moment basis.lost_at (codes ",\"other\":")) (querier_object basis.other)
    (codes ",\"again_at\":") (again_object basis)
    ∙ ap (λ x. c.args.text.now.items ++ x) (sym (otherwise _ _ (ne_eqb basis.lost 0 c.if-basis-eq0.false))))
