use Rattle.mq_sets.proofs.Common.{ℕ, ◌<◌, [], ap, sym, subst, arith, length, get_or, min, All, Spends, IsAscending, IsPlaceFor, bitlen, key_at}
use Rattle.mq_sets.proofs.SearchCosts.{spent-directory, spent-both}
use Rattle.mq_sets.proofs.SearchedPages.{some-pages, ascending-page, All-page, place-in_pages}
use Rattle.mq_sets.proofs.pages.Pages.find.Goals as goal

pub search-requires-clause-ascending : goal.search-requires-clause-ascending
search-requires-clause-ascending g c =
    let key_of = key_at g.K.Key.number c.args.keys.now in
    subst (IsAscending key_of) (sym c.page.ensures.numbers)
    (ascending-page key_of c.args.self.now.pages c.in-Err.page c.in-Err.ensures.absent.0 c.requires.ascending)

pub search-requires-clause-within : goal.search-requires-clause-within
search-requires-clause-within g c =
    let P : ℕ → Type 0 = λ n. n < length c.args.keys.now in
    subst (All P) (sym c.page.ensures.numbers) (All-page P c.args.self.now.pages c.in-Err.page c.in-Err.ensures.absent.0 c.requires.within)

pub returns-in-Ok-clause-there : goal.returns-in-Ok-clause-there
returns-in-Ok-clause-there g c =
    let found = c.in-Ok.ensures.found in
    let some = some-pages c.args.self.now.pages c.requires.filled (omega (arith, found.0, found.1)) c.in-Ok.page [] found.1 in
    (found.1, omega (arith, some))

pub returns-in-Ok-clause-spent : goal.returns-in-Ok-clause-spent
returns-in-Ok-clause-spent g c =
    let found = c.in-Ok.ensures.found in
    spent-directory c.args.self.now.pages c.requires.filled (omega (arith, found.0, found.1)) c.page_of.ensures.spent

pub returns-in-Ok-search-clause-spent : goal.returns-in-Ok-search-clause-spent
returns-in-Ok-search-clause-spent g c =
    let size = ap length c.page.ensures.numbers in
    let counted : Spends (min 1 (length (get_or c.args.self.now.pages c.in-Err.page [])))
    (bitlen (length (get_or c.args.self.now.pages c.in-Err.page []))) c.page_of.new.m c.search.new.m =
    subst (λ k. Spends (min 1 k) (bitlen k) c.page_of.new.m c.search.new.m) size c.search.ensures.spent in
    spent-both c.args.self.now.pages c.requires.filled c.in-Err.page c.in-Err.ensures.absent.0 c.page_of.ensures.spent counted

pub returns-in-Err-search-clause-spent : goal.returns-in-Err-search-clause-spent
returns-in-Err-search-clause-spent g c =
    let size = ap length c.page.ensures.numbers in
    let counted : Spends (min 1 (length (get_or c.args.self.now.pages c.in-Err.page [])))
    (bitlen (length (get_or c.args.self.now.pages c.in-Err.page []))) c.page_of.new.m c.search.new.m =
    subst (λ k. Spends (min 1 k) (bitlen k) c.page_of.new.m c.search.new.m) size c.search.ensures.spent in
    spent-both c.args.self.now.pages c.requires.filled c.in-Err.page c.in-Err.ensures.absent.0 c.page_of.ensures.spent counted

pub returns-in-Err-search-clause-goes : goal.returns-in-Err-search-clause-goes
returns-in-Err-search-clause-goes g c =
    let key_of = key_at g.K.Key.number c.args.keys.now in
    let absent = c.in-Err.ensures.absent in
    place-in_pages key_of c.args.self.now.pages c.in-Err.page c.in-Err-search.place (g.K.Key.number c.args.key) absent.0
    (some-pages c.args.self.now.pages c.requires.filled) c.requires.ascending absent.1
    (subst (λ xs. IsPlaceFor key_of xs (g.K.Key.number c.args.key) c.in-Err-search.place) c.page.ensures.numbers c.in-Err-search.ensures.absent)
