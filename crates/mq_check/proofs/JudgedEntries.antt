-- S of the seen queries that wait, judged in order.
use Rattle.mq_check.proofs.Common.{◌≡◌, inl, inr, ℕ, zero, suc, ◌+◌, ◌-◌, ◌<◌, Bool, true, false, List, [], ◌∷◌, ◌++◌, length, drop, set, get_or, refl, ap, sym}
use Rattle.mq_check.proofs.Common.{◌∙◌, subst, arith, list_map, ◌&&◌, if◌then◌else◌, Option, cases_eq, get_or-set_same, get_or-set_other, length-set}
use Rattle.mq_check.proofs.Common.{length-drop, length_push, get_or_append_left, get_or_read, map-set, get_or_after_one, Asked, Entry, Wanted, Seen, Interval}
use Rattle.mq_check.proofs.Common.{Silence, Packet, SVerdict, Terms, Side, OfWanted, OfSeen, excused_if, joined, moment_of, entry_at, IsJudgedTo, WaitingValue}
use Rattle.mq_check.proofs.Common.{excused_at, is_open, may_still_come}
use Rattle.mq_check.specs.declared.entry.SVerdict.TheVariants.{Open, Right, AsWanted}
use Rattle.mq_check.specs.Entries.{entry_judged, is_open_s, is_s_open, s_if, s_judged}
use Rattle.mq_check.specs.Waiting.{all_judged, is_recent, all_s_judged}
use Rattle.mq_check.proofs.{Alike.AreAlike, Alike.IsAlike, Alike.alike_itself, Waits.made_at}

-- S of the entries before a place stays judged
pub judged_none : (es : List (Entry ℕ)) → IsJudgedTo 0 es
judged_none es = record { within = omega arith; none = λ k before. absurd (omega (arith, before)) }

pub judged_pushed : (place : ℕ) (es : List (Entry ℕ)) (e : Entry ℕ) → IsJudgedTo place es → IsJudgedTo place (es ++ e ∷ [])
judged_pushed place es e so_far = record {
  within = omega (arith, so_far.within, length_push es e);
  none = λ k before.
      let inside : k < length es = omega (arith, before, so_far.within) in
      ap is_s_open (get_or_append_left es (e ∷ []) (Interval 0 0 0 0) k inside) ∙ so_far.none k before;
}

pub judged_popped : (place n : ℕ) (es rest : List (Entry ℕ)) → IsJudgedTo place es → rest ≡ drop 1 es → n ≡ place - 1 → IsJudgedTo n rest
judged_popped place n es rest so_far popped is = record {
  within = omega (arith, so_far.within, is, ap length popped, length-drop {A = Entry ℕ} 1 es);
  none = λ k before.
      ap (λ (ds : List (Entry ℕ)). is_s_open (entry_at ds k)) popped ∙ ap is_s_open (get_or_after_one es k (Interval 0 0 0 0)) ∙
      so_far.none (1 + k) (omega (arith, before, is));
}

pub judged_set : (place at : ℕ) (es : List (Entry ℕ)) (e new : Entry ℕ) → IsJudgedTo place es → at < length es → e ≡ get_or es at e →
    is_s_open new ≡ is_s_open e → IsJudgedTo place (set es at new)
judged_set place at es e new so_far there read is = record {
  within = omega (arith, so_far.within, length-set es at new);
  none = λ k before. elim (cases_eq k at) [
    | inl same ↦
        ap (λ (n : ℕ). is_s_open (entry_at (set es at new) n)) same ∙ ap is_s_open (get_or-set_same es at new (Interval 0 0 0 0) there) ∙ is
        ∙ ap is_s_open (get_or_read es at e there read (Interval 0 0 0 0)) ∙ ap (λ (n : ℕ). is_s_open (entry_at es n)) (sym same) ∙ so_far.none k before
    | inr other ↦ ap is_s_open (get_or-set_other es at k new (Interval 0 0 0 0) other) ∙ so_far.none k before
  ];
}

joined_open : (other : Terms ℕ) (e : Entry ℕ) → is_s_open (joined other e) ≡ is_s_open e
joined_open other (Wanted moment asked terms need is_found) = refl
joined_open other _ = refl

pub judged_joined : (place at : ℕ) (es : List (Entry ℕ)) (other : Terms ℕ) (e : Entry ℕ) → IsJudgedTo place es → at < length es → e ≡ get_or es at e →
    IsJudgedTo place (set es at (joined other e))
judged_joined place at es other e so_far there read = judged_set place at es e (joined other e) so_far there read (joined_open other e)

excused_open : (b : Bool) (e : Entry ℕ) → is_s_open (excused_if b e) ≡ is_s_open e
excused_open false e = refl
excused_open true (Wanted moment asked terms need is_found) = refl
excused_open true _ = refl

each_excused : (within end : ℕ) (sent : WaitingValue) (es : List (Entry ℕ)) (k : ℕ)
    → is_s_open (entry_at (list_map (excused_at within end sent) es) k) ≡ is_s_open (entry_at es k)
each_excused within end sent [] k = refl
each_excused within end sent (e ∷ es) zero = excused_open (may_still_come within end sent e) e
each_excused within end sent (e ∷ es) (suc k) = each_excused within end sent es k

pub judged_excused : (place within end : ℕ) (sent : WaitingValue) (es ds : List (Entry ℕ)) → IsJudgedTo place es →
    ds ≡ list_map (excused_at within end sent) es → length ds ≡ length es → IsJudgedTo place ds
judged_excused place within end sent es ds so_far are long = record {
  within = omega (arith, so_far.within, long);
  none = λ k before. ap (λ (xs : List (Entry ℕ)). is_s_open (entry_at xs k)) are ∙ each_excused within end sent es k ∙ so_far.none k before;
}

-- a judged entry stays as it is
s_closed : (is_set : ℕ → Asked ℕ → Bool) (asked : Asked ℕ) (s : SVerdict) → is_open_s (s_judged is_set asked s) ≡ false
s_closed is_set asked (Open limit) = by_test (is_set limit asked)
  where
    by_test : (b : Bool) → is_open_s (s_if b) ≡ false
    by_test true = refl
    by_test false = refl
s_closed is_set asked _ = refl

closed : (is_set : ℕ → Asked ℕ → Bool) (e : Entry ℕ) → is_s_open (entry_judged is_set e) ≡ false
closed is_set (Seen moment asked terms partner verdict) = s_closed is_set asked verdict.s
closed is_set _ = refl

s_still : (is_set : ℕ → Asked ℕ → Bool) (asked : Asked ℕ) (s : SVerdict) → is_open_s s ≡ false → s_judged is_set asked s ≡ s
s_still is_set asked (Open limit) shut = absurd (cc)
s_still is_set asked _ shut = refl

still : (is_set : ℕ → Asked ℕ → Bool) (e : Entry ℕ) → is_s_open e ≡ false → entry_judged is_set e ≡ e
still is_set (Seen moment asked terms partner verdict) shut =
    ap (λ (s : SVerdict). Seen moment asked terms partner (record verdict { s = s })) (s_still is_set asked verdict.s shut)
still is_set _ shut = refl

module _ (beside : ℕ) (now : Option ℕ) (is_set : ℕ → Asked ℕ → Bool) where
  shut_waits : (e : Entry ℕ) → is_s_open e ≡ false → is_s_open e && is_recent beside now (moment_of e) ≡ false
  shut_waits e shut = ap (λ (b : Bool). b && is_recent beside now (moment_of e)) shut

  head_judged : (e : Entry ℕ) (es : List (Entry ℕ)) → is_s_open e && is_recent beside now (moment_of e) ≡ false
      → all_judged beside now is_set (e ∷ es) ≡ entry_judged is_set e ∷ all_judged beside now is_set es
  head_judged e es is = rw is refl

  head_left : (e : Entry ℕ) (es : List (Entry ℕ)) → is_s_open e && is_recent beside now (moment_of e) ≡ true
      → all_judged beside now is_set (e ∷ es) ≡ e ∷ es
  head_left e es is = rw is refl

  head_shut : (e : Entry ℕ) (es : List (Entry ℕ)) → is_s_open e ≡ false → all_judged beside now is_set (e ∷ es) ≡ e ∷ all_judged beside now is_set es
  head_shut e es shut = head_judged e es (shut_waits e shut) ∙ ap (λ (y : Entry ℕ). y ∷ all_judged beside now is_set es) (still is_set e shut)

  -- one more entry
  one_judged : (place : ℕ) (es : List (Entry ℕ)) (e : Entry ℕ) → ((k : ℕ) → k < place → is_s_open (entry_at es k) ≡ false) → place < length es →
      e ≡ get_or es place e → is_s_open e && is_recent beside now (moment_of e) ≡ false
      → all_judged beside now is_set (set es place (entry_judged is_set e)) ≡ all_judged beside now is_set es
  one_judged place [] e so_far there read is = absurd (omega (arith, there))
  one_judged zero (x ∷ es) e so_far there read is =
      head_shut (entry_judged is_set e) es (closed is_set e) ∙ sym (head_judged e es is) ∙ ap (λ (y : Entry ℕ). all_judged beside now is_set (y ∷ es)) read
  one_judged (suc place) (x ∷ es) e so_far there read is =
      let first : is_s_open x ≡ false = so_far 0 (omega arith) in
      head_shut x (set es place (entry_judged is_set e)) first ∙ ap (λ (rest : List (Entry ℕ)). x ∷ rest)
      (one_judged place es e (λ k before. so_far (suc k) (omega (arith, before))) (omega (arith, there)) read is) ∙ sym (head_shut x es first)

  pub judged_more : (place : ℕ) (es : List (Entry ℕ)) (e : Entry ℕ) → IsJudgedTo place es → place < length es → e ≡ get_or es place e →
      IsJudgedTo (place + 1) (set es place (entry_judged is_set e))
  judged_more place es e so_far there read = record {
    within = omega (arith, there, length-set es place (entry_judged is_set e));
    none = λ k before. elim (cases_eq k place) [
      | inl same ↦
          ap (λ (n : ℕ). is_s_open (entry_at (set es place (entry_judged is_set e)) n)) same ∙
          ap is_s_open (get_or-set_same es place (entry_judged is_set e) (Interval 0 0 0 0) there) ∙ closed is_set e
      | inr other ↦
          ap is_s_open (get_or-set_other es place k (entry_judged is_set e) (Interval 0 0 0 0) other) ∙ so_far.none k (omega (arith, before, other))
    ];
  }

  -- up to the last entry, or to an entry that a Report may still change
  all_shut : (place : ℕ) (es : List (Entry ℕ)) → ((k : ℕ) → k < place → is_s_open (entry_at es k) ≡ false) → length es < suc place →
      all_judged beside now is_set es ≡ es
  all_shut place [] so_far reached = refl
  all_shut zero (x ∷ es) so_far reached = absurd (omega (arith, reached))
  all_shut (suc place) (x ∷ es) so_far reached =
      head_shut x es (so_far 0 (omega arith))
      ∙ ap (λ (rest : List (Entry ℕ)). x ∷ rest) (all_shut place es (λ k before. so_far (suc k) (omega (arith, before))) (omega (arith, reached)))

  shut_to : (place : ℕ) (es : List (Entry ℕ)) (e : Entry ℕ) → ((k : ℕ) → k < place → is_s_open (entry_at es k) ≡ false) → place < length es →
      e ≡ get_or es place e → is_s_open e && is_recent beside now (moment_of e) ≡ true → all_judged beside now is_set es ≡ es
  shut_to place [] e so_far there read is = absurd (omega (arith, there))
  shut_to zero (x ∷ es) e so_far there read is =
      ap (λ (y : Entry ℕ). all_judged beside now is_set (y ∷ es)) (sym read) ∙ head_left e es is ∙ ap (λ (y : Entry ℕ). y ∷ es) read
  shut_to (suc place) (x ∷ es) e so_far there read is =
      head_shut x es (so_far 0 (omega arith)) ∙ ap (λ (rest : List (Entry ℕ)). x ∷ rest)
      (shut_to place es e (λ k before. so_far (suc k) (omega (arith, before))) (omega (arith, there)) read is)

  -- the same for the result of each item: `old` are the items before, and `items` those so far
  pub record AreJudged {X : Type 0} (f : X → Entry ℕ) (old items : List X) (place : ℕ) : Type 0 where
    pub same : all_judged beside now is_set (list_map f items) ≡ all_judged beside now is_set (list_map f old)
    pub to : IsJudgedTo place (list_map f items)

  pub item_judged : {X : Type 0} (f : X → Entry ℕ) (old items more : List X) (place : ℕ) (x new : X) → AreJudged f old items place →
      place < length (list_map f items) → x ≡ get_or items place x → is_s_open (f x) && is_recent beside now (moment_of (f x)) ≡ false
      → more ≡ set items place new → f new ≡ entry_judged is_set (f x) → AreJudged f old more (place + 1)
  item_judged f old items more place x new so_far there read is changed judges =
      let made : list_map f more ≡ set (list_map f items) place (entry_judged is_set (f x)) =
      ap (list_map f) changed ∙ map-set f items place new ∙ ap (set (list_map f items) place) judges in
      let here : f x ≡ get_or (list_map f items) place (f x) = made_at f items (list_map f items) place x refl read in
      record {
        same = ap (all_judged beside now is_set) made ∙ one_judged place (list_map f items) (f x) so_far.to.none there here is ∙ so_far.same;
        to = subst (IsJudgedTo (place + 1)) (sym {A = List (Entry ℕ)} made) (judged_more place (list_map f items) (f x) so_far.to there here);
      }

  pub items_judged : {X : Type 0} (f : X → Entry ℕ) (old items : List X) (place : ℕ) → AreJudged f old items place →
      length (list_map f items) < suc place → list_map f items ≡ all_judged beside now is_set (list_map f old)
  items_judged f old items place so_far reached = sym (all_shut place (list_map f items) so_far.to.none reached) ∙ so_far.same

  pub items_judged_to : {X : Type 0} (f : X → Entry ℕ) (old items : List X) (place : ℕ) (x : X) → AreJudged f old items place →
      place < length (list_map f items) → x ≡ get_or items place x → is_s_open (f x) && is_recent beside now (moment_of (f x)) ≡ true
      → list_map f items ≡ all_judged beside now is_set (list_map f old)
  items_judged_to f old items place x so_far there read is =
      sym (shut_to place (list_map f items) (f x) so_far.to.none there (made_at f items (list_map f items) place x refl read) is) ∙ so_far.same

  -- they are found as before
  alike_judged : (e : Entry ℕ) → IsAlike e (entry_judged is_set e)
  alike_judged (Seen moment asked terms partner verdict) = record {
    opens = λ side other. opens_seen side other;
    slot = λ width. refl;
    moment = refl;
    time = refl;
  }
    where
      opens_seen : (side : Side) (other : Asked ℕ) → is_open side other (entry_judged is_set (Seen moment asked terms partner verdict))
          ≡ is_open side other (Seen moment asked terms partner verdict)
      opens_seen OfWanted other = refl
      opens_seen OfSeen other = refl
  alike_judged _ = alike_itself _

  each_alike : (es : List (Entry ℕ)) (place : ℕ) → IsAlike (entry_at es place) (entry_at (all_judged beside now is_set es) place)
  each_alike [] place = alike_itself _
  each_alike (e ∷ es) place = by_test (is_s_open e && is_recent beside now (moment_of e)) place (λ k. each_alike es k)
    where
      by_test : (b : Bool) (place : ℕ) → ((k : ℕ) → IsAlike (entry_at es k) (entry_at (all_judged beside now is_set es) k)) →
          IsAlike (entry_at (e ∷ es) place) (entry_at (if b then e ∷ es else entry_judged is_set e ∷ all_judged beside now is_set es) place)
      by_test true place rest = alike_itself _
      by_test false zero rest = alike_judged e
      by_test false (suc place) rest = rest place

  as_many : (es : List (Entry ℕ)) → length (all_judged beside now is_set es) ≡ length es
  as_many [] = refl
  as_many (e ∷ es) = by_test (is_s_open e && is_recent beside now (moment_of e)) (as_many es)
    where
      by_test : (b : Bool) → length (all_judged beside now is_set es) ≡ length es →
          length (if b then e ∷ es else entry_judged is_set e ∷ all_judged beside now is_set es) ≡ length (e ∷ es)
      by_test true rest = refl
      by_test false rest = ap (λ (n : ℕ). suc n) rest

  pub judged_are_alike : (es : List (Entry ℕ)) → AreAlike es (all_judged beside now is_set es)
  judged_are_alike es = record { long = as_many es; each = each_alike es }

  pub judged_view : {X : Type 0} (f : X → Entry ℕ) (items more : List X) (is_full : Bool) (w : WaitingValue) →
      record { entries = list_map f items; is_full = is_full } ≡ w → list_map f more ≡ all_judged beside now is_set (list_map f items)
      → record { entries = list_map f more; is_full = is_full } ≡ all_s_judged beside now is_set w
  unfolding all_s_judged
  judged_view f items more is_full w made are =
      let here : record { entries = list_map f more; is_full = is_full }
      ≡ all_s_judged beside now is_set (record { entries = list_map f items; is_full = is_full }) = λ i. record { entries = are i; is_full = is_full } in
      here ∙ ap (all_s_judged beside now is_set) made
