-- One group in provided memory.
use Rattle.mq_c.proofs.Common.{◌≡◌, ℕ, ◌≤◌, Bool, true, false, cond, List, ◌++◌, length, take, drop, refl, sym, ap, ◌∙◌, arith, list_map, take_all, IsAscending}
use Rattle.mq_c.proofs.Common.{number_in, timers_in, Source, Groups, group_at, sources_of, Page, Entry, SourceEntry, ShowsGroup}
use Rattle.std.proofs.{Common.nat_le, lemmas.Bool.Decides.nat_tests}
use Rattle.mq_c.proofs.ShownGroups.{row_forms}
use Rattle.std.specs.FinMap as map

module _ {G S : Type 0} (group_form : Entry → G) (source_form : SourceEntry → S) (held : Groups) (address : ℕ) where
  -- it isn't held, and nothing is written
  pub not_shown : (group : G) (sources : List S) (page : Page) → map.contains_key held address ≡ false → sources_of (group_at held address) ≡ 0 →
      page ≡ record { groups = 0; sources = 0 } → ShowsGroup group_form source_form held address group group sources sources page
  not_shown group sources page absent none is = record {
    count_is = rw (is, absent) refl;
    source_count_is = rw (is, none) (nothing (nat_le 0 (length sources)));
    group_is = rw absent refl;
    sources_are = rw is refl;
  }
    where
      nothing : (b : Bool) → ◌≡◌ {A = ℕ} 0 (cond b 0 0)
      nothing true = refl
      nothing false = refl

  -- it is written with its sources
  pub shown_whole : {K : Type 0} (number : K → ℕ) (row : List (Source K)) (group new_group : G) (sources new_sources : List S) (page : Page) →
      map.contains_key held address ≡ true → IsAscending (number_in number) row → (group_at held address).group.sources ≡ timers_in number row →
      length row ≡ sources_of (group_at held address) → length row ≤ length sources
      → new_group ≡ group_form (address, group_at held address) →
      new_sources ≡ list_map (λ (x : Source K). source_form (number x.address, x.timer)) row ++ drop (length row) sources →
      page ≡ record { groups = 1; sources = length row } → ShowsGroup group_form source_form held address group new_group sources new_sources page
  shown_whole number row group new_group sources new_sources page here up timers size fits written put is =
      let within : nat_le (sources_of (group_at held address)) (length sources) ≡ true = grind (arith, nat_tests, fits, size) in
      let all = map.entries (group_at held address).group.sources in
      let whole : take (length row) all ≡ all = take_all (length row) all (omega (arith, size, map.len-entries (group_at held address).group.sources)) in
      record {
        count_is = rw (is, here) refl;
        source_count_is = rw (is, within) size;
        group_is = rw (here, written) refl;
        sources_are = rw is (put ∙ ap (λ (l : List S). l ++ drop (length row) sources)
            (row_forms number source_form row up ∙ ap (λ m. list_map source_form (map.entries m)) (sym timers) ∙ ap (list_map source_form) (sym whole)));
      }
