-- The queries of a round, each with at most the sources that one message holds.
use Rattle.mq_sched.proofs.Common.{ℕ, zero, suc, Bool, List, [], ◌∷◌, ◌++◌, length, drop, arith, list_map, length-take, Timing, AllFit, portions_within}
use Rattle.mq_sched.proofs.Common.{ScheduledGroup, SentQuery, GeneralQuery, GroupQuery, SourcesQuery, sources_queries, messages_due}

fits_within : (most n group : ℕ) (suppress : Bool) (xs : List ℕ) → AllFit n (list_map (SourcesQuery group suppress) (portions_within most n xs))
fits_within most n group suppress [] = tt
fits_within zero n group suppress (x ∷ xs) = tt
fits_within (suc most) n group suppress (x ∷ xs) = (omega (arith, length-take n (x ∷ xs)), fits_within most n group suppress (drop n (x ∷ xs)))

-- no portion is longer than one message holds
pub fits : (n group : ℕ) (suppress : Bool) (xs : List ℕ) → AllFit n (sources_queries n group suppress xs)
fits n group suppress xs = fits_within (length xs) n group suppress xs

fit_append : (n : ℕ) (xs ys : List SentQuery) → AllFit n xs → AllFit n ys → AllFit n (xs ++ ys)
fit_append n [] ys a b = b
fit_append n (GeneralQuery ∷ xs) ys a b = fit_append n xs ys a b
fit_append n (GroupQuery g f ∷ xs) ys a b = fit_append n xs ys a b
fit_append n (SourcesQuery g f ss ∷ xs) ys a b = (a.0, fit_append n xs ys a.1 b)

pub all_fit : (n : ℕ) (timing : Timing) (now group : ℕ) (e : ScheduledGroup) → AllFit n (messages_due n timing now group e)
all_fit n timing now group e = grind (arith, fit_append, fits)
