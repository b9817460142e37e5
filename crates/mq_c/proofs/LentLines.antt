-- Lines in provided memory.
use Rattle.mq_c.proofs.Common.{◌≡◌, ℕ, ◌-◌, ◌≤◌, Bool, false, is_ok, List, [], ◌++◌, length, take, drop, Some, Result, Ok, Err, refl, sym, ap, ◌∙◌, subst}
use Rattle.mq_c.proofs.Common.{arith, append-nil, take-append-drop, common_steps, Family, LineStands}
use Rattle.std.proofs.Common.{IsTrue, is_err, if◌then◌else◌, ◌||◌}
use Rattle.mq_lines.specs.{Line.PrintsLineIn, Text.line_of}
use Rattle.mq_c.specs.{declared.line_room.LineRoom.LineRoom, LineRoom.in_front, LineRoom.written_to}

-- where all of a text was written, it stands in front
all_in_front : (text before new : List ℕ) (written : ℕ) → written ≤ length new → length new ≡ length before → drop written new ≡ drop written before →
    take written new ≡ text → new ≡ in_front text before
all_in_front text before new written within same_length behind all =
    let long : length text ≡ written = grind (arith, common_steps, ap length all) in
    let front : take (length before) text ≡ text = grind (arith, common_steps, long, within, same_length) in
    sym (take-append-drop written new) ∙ rw (all, behind, front, long) refl

-- full memory has a prefix of the text
beginning_in_front : (text left before new : List ℕ) → length new ≡ length before → text ≡ new ++ left → new ≡ in_front text before
beginning_in_front text left before new same_length parts =
    let front : take (length before) text ≡ new = grind (arith, common_steps, parts, same_length) in
    let none : drop (length text) before ≡ [] = grind (arith, common_steps, parts, same_length) in
    rw (front, none) (sym (append-nil new))

-- A line that was printed into the memory stands there.
printed_stands : {E : Type 0} (json : Bool) (family : Family) (pseudo bytes before new : List ℕ) (written : ℕ) (printed : Result Bool E)
    → written ≤ length new → length new ≡ length before → drop written new ≡ drop written before → (IsTrue (is_err printed) → written ≡ length new)
    → PrintsLineIn json (Some []) (Some (take written new)) family pseudo bytes printed
    → LineStands json family pseudo bytes before new (if is_ok printed then written - 1 else written)
printed_stands json family pseudo bytes before new written (Ok flag) within same_length behind no_room prints =
    let line = prints.is_line in
    record {
      flag = prints.flag;
      line = line.0;
      is_text = line.1;
      stands = all_in_front (line_of line.0) before new written within same_length behind (prints.printed.1 ∙ line.2);
      counted = grind (arith, common_steps, ap length (prints.printed.1 ∙ line.2), within, same_length);
    }
printed_stands json family pseudo bytes before new written (Err e) within same_length behind no_room prints =
    let line = prints.is_line in
    let begun = prints.printed in
    let filled : take written new ≡ new = grind (arith, common_steps, no_room refl) in
    let parts : line_of line.0 ≡ new ++ begun.left = sym line.2 ∙ begun.parts ∙ ap (λ (t : List ℕ). t ++ begun.left) (sym begun.grows ∙ filled) in
    record {
      flag = prints.flag;
      line = line.0;
      is_text = line.1;
      stands = beginning_in_front (line_of line.0) begun.left before new same_length parts;
      counted = grind (arith, common_steps, ap length parts, begun.some_left, no_room refl, same_length);
    }

-- this fact for a room that was made empty, and then printed into
pub line_stands : {E : Type 0} {L : Type 0} {l : _} (json : Bool) (family : Family) (pseudo bytes : List ℕ) (made room : LineRoom L l) (printed : Result Bool E)
    → made.written ≡ 0 → made.full ≡ false → room.full ≡ made.full || is_err printed
    → PrintsLineIn json (written_to made) (written_to room) family pseudo bytes printed
    → LineStands json family pseudo bytes l.before room.out.now (if is_ok printed then room.written - 1 else room.written)
line_stands {E} {L} {l} json family pseudo bytes made room printed none unfilled failed prints =
    printed_stands json family pseudo bytes l.before room.out.now room.written printed room.within room.same_length room.behind
    (λ broken. room.no_room (failed ∙ ap (λ (b : Bool). b || is_err printed) unfilled ∙ broken))
    (subst (λ (n : ℕ). PrintsLineIn json (Some (take n made.out.now)) (written_to room) family pseudo bytes printed) none prints)
