-- The entries that wait during a check whose queries pair up.
use Rattle.mq_laws.proofs.Common.{◌≡◌, ℕ, ◌+◌, ◌≤◌, Bool, true, false, List, [], ◌∷◌, ◌++◌, refl, ap, sym, ◌∙◌, arith, ⊤, nat_lt, AllByRecursion, le-ltb}
use Rattle.mq_laws.proofs.Common.{lt-ltb, ltb-true, Asked, Entry, Need, Required, Wanted, Seen, Terms, terms_in, joined, first_terms, first_joined}
use Rattle.mq_laws.proofs.Common.{terms_differ, is_same, Ask, Expected, Sent, LeftOut, ask_of, seen_about, wanted_about, still_due, None, Some, moment_of}

abbrev pub ask : (moment : ℕ) → Asked ℕ → Terms ℕ → Ask
ask moment asked terms = record { moment = moment; asked = asked; terms = terms }

-- an entry without a partner is this one, and where that was left out it has to be sent
abbrev pub IsKept : (moment : ℕ) → Asked ℕ → Terms ℕ → (need : Need) → Expected → Type 0
IsKept moment asked terms need (Sent w) = w ≡ ask moment asked terms
IsKept moment asked terms need (LeftOut w) = (w ≡ ask moment asked terms) × (need ≡ Required)

-- Entries whose wanted queries without a partner are these, in their order. Nothing is found of pairs.
abbrev pub Holds : List (Entry ℕ) → List Expected → Type 0
Holds [] [] = ⊤
Holds [] (x ∷ xs) = ⊥
Holds (Wanted moment asked terms need true ∷ es) xs = Holds es xs
Holds (Wanted moment asked terms need false ∷ es) [] = ⊥
Holds (Wanted moment asked terms need false ∷ es) (x ∷ xs) = IsKept moment asked terms need x × Holds es xs
Holds (Seen moment asked terms None is_querier ∷ es) xs = Holds es xs
Holds (Seen moment asked terms (Some wanted) is_querier ∷ es) xs = (terms_differ terms wanted ≡ []) × Holds es xs
Holds (_ ∷ es) xs = ⊥

-- the queries among entries that were seen and have no partner
abbrev pub free_seen : List (Entry ℕ) → List Ask
free_seen [] = []
free_seen (Seen moment asked terms None is_querier ∷ es) = ask moment asked terms ∷ free_seen es
free_seen (_ ∷ es) = free_seen es

-- entries in the order of their moments, up to one
abbrev pub IsAscending : (low : ℕ) → List (Entry ℕ) → (now : ℕ) → Type 0
IsAscending low [] now = low ≤ now
IsAscending low (e ∷ es) now = (low ≤ moment_of e) × IsAscending (moment_of e) es now

-- none is over at a moment
abbrev pub NoneOver : (within now : ℕ) → List (Entry ℕ) → Type 0
NoneOver within now es = AllByRecursion (λ (e : Entry ℕ). now ≤ moment_of e + within) es

pub kept_ask : (moment : ℕ) (asked : Asked ℕ) (terms : Terms ℕ) (need : Need) (x : Expected) → IsKept moment asked terms need x →
    ask_of x ≡ ask moment asked terms
kept_ask moment asked terms need (Sent w) is = is
kept_ask moment asked terms need (LeftOut w) is = is.0

-- those about one thing, one by one
pub wanted_here : (asked : Asked ℕ) (x : Expected) (xs : List Expected) → is_same asked (ask_of x).asked ≡ true →
    wanted_about asked (x ∷ xs) ≡ x ∷ wanted_about asked xs
wanted_here asked x xs is = rw is refl

pub wanted_other : (asked : Asked ℕ) (x : Expected) (xs : List Expected) → is_same asked (ask_of x).asked ≡ false →
    wanted_about asked (x ∷ xs) ≡ wanted_about asked xs
wanted_other asked x xs is = rw is refl

pub wanted_both : (asked : Asked ℕ) (x : Expected) (xs ys : List Expected) → wanted_about asked xs ≡ wanted_about asked ys →
    wanted_about asked (x ∷ xs) ≡ wanted_about asked (x ∷ ys)
wanted_both asked x xs ys e = rw e refl

pub seen_here : (asked : Asked ℕ) (s : Ask) (ss : List Ask) → is_same asked s.asked ≡ true → seen_about asked (s ∷ ss) ≡ s ∷ seen_about asked ss
seen_here asked s ss is = rw is refl

pub seen_other : (asked : Asked ℕ) (s : Ask) (ss : List Ask) → is_same asked s.asked ≡ false → seen_about asked (s ∷ ss) ≡ seen_about asked ss
seen_other asked s ss is = rw is refl

pub seen_both : (asked : Asked ℕ) (s : Ask) (ss ts : List Ask) → seen_about asked ss ≡ seen_about asked ts →
    seen_about asked (s ∷ ss) ≡ seen_about asked (s ∷ ts)
seen_both asked s ss ts e = rw e refl

pub wanted_about-append : (asked : Asked ℕ) (xs ys : List Expected) → wanted_about asked (xs ++ ys) ≡ wanted_about asked xs ++ wanted_about asked ys
wanted_about-append asked [] ys = refl
wanted_about-append asked (x ∷ xs) ys = one (wanted_about-append asked xs ys) (is_same asked (ask_of x).asked) refl
  where
    one : wanted_about asked (xs ++ ys) ≡ wanted_about asked xs ++ wanted_about asked ys → (b : Bool) → is_same asked (ask_of x).asked ≡ b →
        wanted_about asked (x ∷ xs ++ ys) ≡ wanted_about asked (x ∷ xs) ++ wanted_about asked ys
    one rest true is = wanted_here asked x (xs ++ ys) is ∙ ap (λ (l : List Expected). x ∷ l) rest ∙
        ap (λ (l : List Expected). l ++ wanted_about asked ys) (sym (wanted_here asked x xs is))
    one rest false is = wanted_other asked x (xs ++ ys) is ∙ rest ∙ ap (λ (l : List Expected). l ++ wanted_about asked ys) (sym (wanted_other asked x xs is))

pub seen_about-append : (asked : Asked ℕ) (xs ys : List Ask) → seen_about asked (xs ++ ys) ≡ seen_about asked xs ++ seen_about asked ys
seen_about-append asked [] ys = refl
seen_about-append asked (x ∷ xs) ys = one (seen_about-append asked xs ys) (is_same asked x.asked) refl
  where
    one : seen_about asked (xs ++ ys) ≡ seen_about asked xs ++ seen_about asked ys → (b : Bool) → is_same asked x.asked ≡ b →
        seen_about asked (x ∷ xs ++ ys) ≡ seen_about asked (x ∷ xs) ++ seen_about asked ys
    one rest true is = seen_here asked x (xs ++ ys) is ∙ ap (λ (l : List Ask). x ∷ l) rest ∙ ap (λ (l : List Ask). l ++ seen_about asked ys)
        (sym (seen_here asked x xs is))
    one rest false is = seen_other asked x (xs ++ ys) is ∙ rest ∙ ap (λ (l : List Ask). l ++ seen_about asked ys) (sym (seen_other asked x xs is))

-- in order
pub ascending-from : (low low' : ℕ) (es : List (Entry ℕ)) (now : ℕ) → low' ≤ low → IsAscending low es now → IsAscending low' es now
ascending-from low low' [] now before is = omega arith
ascending-from low low' (e ∷ es) now before is = (omega arith, is.1)

pub ascending-to : (low : ℕ) (es : List (Entry ℕ)) (now later : ℕ) → now ≤ later → IsAscending low es now → IsAscending low es later
ascending-to low [] now later before is = omega arith
ascending-to low (e ∷ es) now later before is = (is.0, ascending-to (moment_of e) es now later before is.1)

pub ascending-put : (low : ℕ) (es : List (Entry ℕ)) (now : ℕ) (e : Entry ℕ) → moment_of e ≡ now → IsAscending low es now → IsAscending low (es ++ e ∷ []) now
ascending-put low [] now e at is = (omega arith, omega arith)
ascending-put low (d ∷ es) now e at is = (is.0, ascending-put (moment_of d) es now e at is.1)

joined_moment : (other : Terms ℕ) (e : Entry ℕ) → moment_of (joined other e) ≡ moment_of e
joined_moment other (Wanted moment asked terms need is_found) = refl
joined_moment other _ = refl

-- the terms of the first entry that passes a test, and the entries after it is joined
pub passed_terms : (test : Entry ℕ → Bool) (e : Entry ℕ) (es : List (Entry ℕ)) → test e ≡ false → first_terms test (e ∷ es) ≡ first_terms test es
passed_terms test e es is = rw is refl

pub passed_joined : (test : Entry ℕ → Bool) (other : Terms ℕ) (e : Entry ℕ) (es : List (Entry ℕ)) → test e ≡ false →
    first_joined test other (e ∷ es) ≡ e ∷ first_joined test other es
passed_joined test other e es is = rw is refl

pub met_terms : (test : Entry ℕ → Bool) (e : Entry ℕ) (es : List (Entry ℕ)) → test e ≡ true → first_terms test (e ∷ es) ≡ terms_in e
met_terms test e es is = rw is refl

pub met_joined : (test : Entry ℕ → Bool) (other : Terms ℕ) (e : Entry ℕ) (es : List (Entry ℕ)) → test e ≡ true →
    first_joined test other (e ∷ es) ≡ joined other e ∷ es
met_joined test other e es is = rw is refl

pub ascending-joined : (test : Entry ℕ → Bool) (other : Terms ℕ) (low : ℕ) (es : List (Entry ℕ)) (now : ℕ) → IsAscending low es now →
    IsAscending low (first_joined test other es) now
ascending-joined test other low [] now is = is
ascending-joined test other low (e ∷ es) now is = one (ascending-joined test other (moment_of e) es now is.1) (test e) refl
  where
    one : IsAscending (moment_of e) (first_joined test other es) now → (b : Bool) → test e ≡ b → IsAscending low (first_joined test other (e ∷ es)) now
    one rest true met = rw (met_joined test other e es met, joined_moment other e) is
    one rest false met = rw (passed_joined test other e es met) (is.0, rest)

pub none_over-joined : (test : Entry ℕ → Bool) (other : Terms ℕ) (within now : ℕ) (es : List (Entry ℕ)) → NoneOver within now es →
    NoneOver within now (first_joined test other es)
none_over-joined test other within now [] is = is
none_over-joined test other within now (e ∷ es) is = one (none_over-joined test other within now es is.1) (test e) refl
  where
    one : NoneOver within now (first_joined test other es) → (b : Bool) → test e ≡ b → NoneOver within now (first_joined test other (e ∷ es))
    one rest true met = rw (met_joined test other e es met, joined_moment other e) is
    one rest false met = rw (passed_joined test other e es met) (is.0, rest)

pub none_over-put : (within now : ℕ) (es : List (Entry ℕ)) (e : Entry ℕ) → moment_of e ≡ now → NoneOver within now es → NoneOver within now (es ++ e ∷ [])
none_over-put within now [] e at is = (omega arith, tt)
none_over-put within now (d ∷ es) e at is = (is.0, none_over-put within now es e at is.1)

pub none_over-ascending : (within now low : ℕ) (es : List (Entry ℕ)) (last : ℕ) → now ≤ low + within → IsAscending low es last → NoneOver within now es
none_over-ascending within now low [] last ahead is = tt
none_over-ascending within now low (e ∷ es) last ahead is = (omega arith, none_over-ascending within now (moment_of e) es last (omega arith) is.1)

-- the moments of the queries about a thing that wait without a partner
abbrev pub moments_wanted : List Expected → List ℕ
moments_wanted [] = []
moments_wanted (x ∷ xs) = (ask_of x).moment ∷ moments_wanted xs

-- wanted queries that are still due at a moment
abbrev pub AllStill : (within moment : ℕ) → List Expected → Type 0
AllStill within moment xs = AllByRecursion (λ (x : Expected). moment ≤ (ask_of x).moment + within) xs

pub ahead-holds : (within moment : ℕ) (es : List (Entry ℕ)) (xs : List Expected) → Holds es xs → NoneOver within moment es → AllStill within moment xs
ahead-holds within moment [] [] holds ahead = tt
ahead-holds within moment [] (x ∷ xs) holds ahead = absurd holds
ahead-holds within moment (Wanted m a t o true ∷ es) xs holds ahead = ahead-holds within moment es xs holds ahead.1
ahead-holds within moment (Wanted m a t o false ∷ es) [] holds ahead = absurd holds
ahead-holds within moment (Wanted m a t o false ∷ es) (x ∷ xs) holds ahead =
    (rw (kept_ask m a t o x holds.0) ahead.0, ahead-holds within moment es xs holds.1 ahead.1)
ahead-holds within moment (Seen m a t None q ∷ es) xs holds ahead = ahead-holds within moment es xs holds ahead.1
ahead-holds within moment (Seen m a t (Some w) q ∷ es) xs holds ahead = ahead-holds within moment es xs holds.1 ahead.1
ahead-holds within moment (_ ∷ es) xs holds ahead = absurd holds

pub ahead-about : (within moment : ℕ) (asked : Asked ℕ) (xs : List Expected) → AllStill within moment xs → AllStill within moment (wanted_about asked xs)
ahead-about within moment asked [] is = is
ahead-about within moment asked (x ∷ xs) is = one (ahead-about within moment asked xs is.1) (is_same asked (ask_of x).asked) refl
  where
    one : AllStill within moment (wanted_about asked xs) → (b : Bool) → is_same asked (ask_of x).asked ≡ b →
        AllStill within moment (wanted_about asked (x ∷ xs))
    one rest true same = rw (wanted_here asked x xs same) (is.0, rest)
    one rest false differs = rw (wanted_other asked x xs differs) rest

pub all_still : (within moment : ℕ) (xs : List Expected) → AllStill within moment xs → still_due within moment (moments_wanted xs) ≡ moments_wanted xs
all_still within moment [] is = refl
all_still within moment (x ∷ xs) is = let ahead = le-ltb ((ask_of x).moment + within) moment is.0 in rw ahead refl

pub still_put : (within now : ℕ) (ds : List ℕ) → still_due within now (ds ++ now ∷ []) ≡ still_due within now ds ++ now ∷ []
still_put within now [] = let ahead = le-ltb (now + within) now (omega arith) in rw ahead refl
still_put within now (d ∷ ds) = one (still_put within now ds) (nat_lt (d + within) now) refl
  where
    one : still_due within now (ds ++ now ∷ []) ≡ still_due within now ds ++ now ∷ [] → (b : Bool) → nat_lt (d + within) now ≡ b →
        still_due within now (d ∷ ds ++ now ∷ []) ≡ still_due within now (d ∷ ds) ++ now ∷ []
    one rest true over = rw over rest
    one rest false ahead = rw ahead refl

-- those that are due at a later moment
pub still_later : (within now later : ℕ) (ds : List ℕ) → now ≤ later → still_due within later (still_due within now ds) ≡ still_due within later ds
still_later within now later [] before = refl
still_later within now later (d ∷ ds) before = one (still_later within now later ds before) (nat_lt (d + within) now) refl
  where
    one : still_due within later (still_due within now ds) ≡ still_due within later ds → (b : Bool) → nat_lt (d + within) now ≡ b →
        still_due within later (still_due within now (d ∷ ds)) ≡ still_due within later (d ∷ ds)
    one rest true over = let past = ltb-true (d + within) now over in let gone : nat_lt (d + within) later ≡ true =
        lt-ltb (d + within) later (omega arith) in rw (over, gone) rest
    one rest false ahead = rw ahead refl
