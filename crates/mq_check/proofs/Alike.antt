-- Entries that differ in nothing by which they are searched.
use Rattle.mq_check.proofs.Common.{◌≡◌, ℕ, zero, suc, List, [], ◌∷◌, length, get_or, refl, ap, sym, ◌∙◌, arith, list_map, ◌&&◌, nat_le, mapped_long, Asked}
use Rattle.mq_check.proofs.Common.{Entry, Side, moment_of, wanted_slot, wanted_moment, entry_at, AreMarked, AreBounded, TrailsValue, is_open}

pub record IsAlike (a b : Entry ℕ) : Type 0 where
  pub opens : (side : Side) (asked : Asked ℕ) → is_open side asked b ≡ is_open side asked a
  pub slot : (width : ℕ) → wanted_slot width b ≡ wanted_slot width a
  pub moment : wanted_moment b ≡ wanted_moment a
  pub time : moment_of b ≡ moment_of a

pub alike_itself : (a : Entry ℕ) → IsAlike a a
alike_itself a = record { opens = λ side asked. refl; slot = λ width. refl; moment = refl; time = refl }

pub record AreAlike (es ds : List (Entry ℕ)) : Type 0 where
  pub long : length ds ≡ length es
  pub each : (place : ℕ) → IsAlike (entry_at es place) (entry_at ds place)

-- each entry was changed
pub alike_each : (change : Entry ℕ → Entry ℕ) (all : (e : Entry ℕ) → IsAlike e (change e)) (es : List (Entry ℕ)) (place : ℕ)
    → IsAlike (entry_at es place) (entry_at (list_map change es) place)
alike_each change all [] place = alike_itself _
alike_each change all (e ∷ es) zero = all e
alike_each change all (e ∷ es) (suc place) = alike_each change all es place

pub alike_all : (change : Entry ℕ → Entry ℕ) (all : (e : Entry ℕ) → IsAlike e (change e)) (es : List (Entry ℕ)) → AreAlike es (list_map change es)
alike_all change all es = record { long = mapped_long es change; each = alike_each change all es }

pub marked_alike : (width horizon : ℕ) (es ds : List (Entry ℕ)) (t : TrailsValue) → AreAlike es ds → AreMarked width horizon es t → AreMarked width horizon ds t
marked_alike width horizon es ds t alike marked = record {
  long = marked.long ∙ sym alike.long;
  slot = λ place side asked inside free.
      marked.slot place side asked (omega (arith, inside, alike.long)) (sym ((alike.each place).opens side asked) ∙ free);
  reached = λ place side asked inside free.
      marked.reached place side asked (omega (arith, inside, alike.long)) (sym ((alike.each place).opens side asked) ∙ free);
  near = λ place side asked inside free.
      marked.near place side asked (omega (arith, inside, alike.long))
      ((λ i. sym ((alike.each place).opens side asked) i && nat_le horizon (sym (alike.each place).time i)) ∙ free);
}

pub bounded_alike : (width : ℕ) (es ds : List (Entry ℕ)) (latest : List ℕ) → AreAlike es ds → AreBounded width es latest → AreBounded width ds latest
bounded_alike width es ds latest alike bounded = record {
  by = λ place inside.
      let read = ap (λ (s : ℕ). get_or latest s 0) ((alike.each place).slot width) in
      omega (arith, bounded.by place (omega (arith, inside, alike.long)), (alike.each place).moment, read);
}
