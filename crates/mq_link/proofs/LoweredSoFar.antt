-- A group some of whose sources were lowered one after the other.
use Rattle.mq_link.proofs.Common.{◌≡◌, ℕ, ◌+◌, ◌*◌, ◌≤◌, ◌<◌, min, Bool, false, cond, ◌||◌, List, [], ◌∷◌, ◌++◌, length, sym, ap, ◌∙◌, arith, append-nil}
use Rattle.mq_link.proofs.Common.{append_assoc, length-append, eqb, nat_tests, list_any, nat_cmp, lowered_by_query, some_named, Spends, Spends-join_within}
use Rattle.mq_link.proofs.Common.{bitlen, Timing, GroupState, sources_lowered, lowered_to, source_lowered, StoredGroup, size_of, same_group}
use Rattle.std.specs.FinSet as set
use Rattle.mq_table.proofs.Lower.{timer_at-sources_lowered, lowered_both}
use Rattle.mq_link.proofs.{MadeEntries.len-made, NamedSoFar.any_push}

pub record IsLowered (timing : Timing) (now : ℕ) (all left : List ℕ) (from : StoredGroup) (from_count : ℕ) (g : StoredGroup) (count : ℕ)
    (done : List ℕ) : Type 0 where
  pub parts : all ≡ done ++ left
  pub state : g.state ≡ sources_lowered timing now (λ s. list_any (λ n. eqb n s) done) from.state
  pub room : g.room ≡ from.room
  pub spent : Spends 0 (length done * (bitlen (size_of from.state) + 1)) from_count count

eqb_sym : (a b : ℕ) → eqb a b ≡ eqb b a
eqb_sym a b = grind (arith, nat_tests)

size_lowered : (timing : Timing) (now : ℕ) (asked : ℕ → Bool) (g : GroupState) → size_of (sources_lowered timing now asked g) ≡ size_of g
size_lowered timing now asked g = len-made (λ s timer. cond (asked s) (source_lowered (lowered_to timing now) timer) timer) g.sources

pub none_lowered : (timing : Timing) (now : ℕ) (g : GroupState) → g ≡ sources_lowered timing now (λ s. false) g
none_lowered timing now g = same_group g.mode _ _ g.v1 g.v2 (λ s. sym (timer_at-sources_lowered timing now (λ s. false) g s))

pub one_lowered : (timing : Timing) (now : ℕ) (all before left : List ℕ) (from old new : StoredGroup) (from_count count after n : ℕ) (done : List ℕ)
    → IsLowered timing now all before from from_count old count done → before ≡ n ∷ left
    → new.state ≡ sources_lowered timing now (λ s. eqb s n) old.state → new.room ≡ old.room
    → Spends (min 1 (size_of old.state)) (bitlen (size_of old.state) + 1) count after
    → IsLowered timing now all left from from_count new after (done ++ n ∷ [])
one_lowered timing now all before left from old new from_count count after n done lowered first is room counted =
    let asked = λ (s : ℕ). list_any (λ k. eqb k s) done in
    let size = ap size_of lowered.state ∙ size_lowered timing now asked from.state in
    let whole = length-append done (n ∷ []) in
    let digits = ap bitlen size in
    record {
      parts = lowered.parts ∙ ap (λ (xs : List ℕ). done ++ xs) first ∙ sym (append_assoc done (n ∷ []) left);
      state =
          is
          ∙ ap (sources_lowered timing now (λ s. eqb s n)) lowered.state
          ∙ lowered_both timing now asked (λ s. eqb s n) from.state
          ∙ (λ i. sources_lowered timing now (λ s. same s i) from.state);
      room = room ∙ lowered.room;
      spent = Spends-join_within 0 (length (done ++ n ∷ []) * (bitlen (size_of from.state) + 1)) lowered.spent counted (omega arith)
          (more (length done) _ _ _ whole digits);
    }
  where
    same : (s : ℕ) → (list_any (λ k. eqb k s) done || eqb s n) ≡ list_any (λ k. eqb k s) (done ++ n ∷ [])
    same s = ap (λ b. list_any (λ k. eqb k s) done || b) (eqb_sym s n) ∙ any_push s n done

    more : (d b e w : ℕ) → w ≡ d + 1 → e ≡ b → d * (b + 1) + (e + 1) ≤ w * (b + 1)
    more d b e w is same = grind arith

pub all_lowered : (timing : Timing) (now : ℕ) (all left : List ℕ) (from : StoredGroup) (from_count : ℕ) (g : StoredGroup) (count : ℕ) (done : List ℕ)
    → IsLowered timing now all left from from_count g count done → left ≡ [] → done ≡ all
all_lowered timing now all left from from_count g count done lowered none =
    sym (append-nil done) ∙ ap (λ (xs : List ℕ). done ++ xs) (sym none) ∙ sym lowered.parts

-- lowering the sources that a query lists is lowering their set
pub lowered_as_set : (timing : Timing) (now : ℕ) (sources : List ℕ) (g : GroupState) → 0 < length sources →
    sources_lowered timing now (λ s. list_any (λ n. eqb n s) sources) g ≡ lowered_by_query timing now false (some_named sources) g
lowered_as_set timing now [] g some = absurd (omega arith)
lowered_as_set timing now (n ∷ sources) g some = (λ i. sources_lowered timing now (λ s. same s i) g)
  where
    same : (s : ℕ) → list_any (λ k. eqb k s) (n ∷ sources) ≡ set.contains {R = nat_cmp} (set.from_list (n ∷ sources)) s
    same s = sym (set.contains-from_list_nat (n ∷ sources) s)
