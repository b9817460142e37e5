use Rattle.mquerier.proofs.Common.{ap, ◌∙◌, err_from_is_err_and, numbered_announced, output_of, Family, input_by, output_by, taken_line}
use Rattle.mquerier.proofs.Takings.{found_done, found_unwritten}
use Rattle.mquerier.proofs.taking.check_found.Goals as goal

pub returns-in_err-print_whole : goal.returns-in_err-print_whole
returns-in_err-print_whole g c =
    let p = err_from_is_err_and c.from_residual-in_err-print_whole.result c.from_residual-in_err-print_whole.ensures.1 in
    let found = numbered_announced g.F.Address.Key.number c.args.found.now in
    let input = input_by g.R.Read.remaining c.args.input.now c.check_at.new.input in
    let output = output_by g.W.Write.contents c.args.output.now c.print_whole.new.output in
    let mid = output_of g.W.Write.contents c.check_at.new.output in
    let line = c.as_slice.ensures ∙ c.taken_line_of-line.ensures ∙
    ap (λ (f : Family). taken_line c.args.given.now.terms.additions.json f c.args.given.now.settings found) g.met.F.CapturedFamily.same_family in
    rw (p.1, p.2) (found_unwritten g.F.Family.FAMILY c.args.given.now found _ _ input output mid _ _ _ c.with_variables.ensures
    c.terms_found.ensures line c.in_ok-totals.ensures.works c.in_err-print_whole.ensures)

pub returns : goal.returns
returns g c =
    let found = numbered_announced g.F.Address.Key.number c.args.found.now in
    let input = input_by g.R.Read.remaining c.args.input.now c.check_at.new.input in
    let output = output_by g.W.Write.contents c.args.output.now c.print_whole.new.output in
    let mid = output_of g.W.Write.contents c.check_at.new.output in
    let line = c.as_slice.ensures ∙ c.taken_line_of-line.ensures ∙
    ap (λ (f : Family). taken_line c.args.given.now.terms.additions.json f c.args.given.now.settings found) g.met.F.CapturedFamily.same_family in
    found_done g.F.Family.FAMILY c.args.given.now found _ _ input output mid _ _ c.with_variables.ensures c.terms_found.ensures line
    c.in_ok-totals.ensures.works c.in_ok-print_whole.ensures
