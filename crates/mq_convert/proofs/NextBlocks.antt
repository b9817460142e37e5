-- The result of reading the next block, step by step.
use Rattle.mq_convert.proofs.Common.{◌≡◌, ℕ, ◌<◌, ◌≤◌, ◌||◌, Bool, true, false, List, [], ◌∷◌, ◌++◌, length, take, Some, Result, Ok, Err, refl, ap, sym, ◌∙◌}
use Rattle.mq_convert.proofs.Common.{inr, arith, append-nil, length-append, nat_lt, not, ◌&&◌, lt-ltb, le-ltb, take_all, take-append-le, or-false, or-true}
use Rattle.mq_convert.proofs.Common.{InputState, Takes, Takes-trans, BlockFault, ConvertFault, endless, outer_fault, size_fault, FillsFrom, FillsSeen, is_cut}
use Rattle.mq_convert.proofs.Common.{NextBlock, head_size, is_start, least_size, most_seen, seen_of, size_in, size_of}
use Rattle.mq_convert.specs.declared.context.Kind.{Kind}
use Rattle.mq_convert.specs.declared.context.Kind.TheVariants.{Start, Classic, Section}
use Rattle.mq_convert.specs.declared.fault.BlockFault.TheVariants as fault
use Rattle.mq_convert.specs.declared.fault.ConvertFault.TheVariants as answer

pub some_head : (kind : Kind) → 0 < head_size kind
some_head Start = omega arith
some_head _ = omega arith

-- bytes that are there, or have to be, are no end
there : (kind : Kind) (bytes : List ℕ) → (length bytes ≡ 0 → is_start kind ≡ true) → (nat_lt (length bytes) 1 && not (is_start kind)) ≡ false
there kind [] all = rw (all refl) refl
there kind (x ∷ xs) all = let some = le-ltb (length (x ∷ xs)) 1 (omega arith) in rw some refl

pub endless_next : (kind : Kind) (number : ℕ) (old new : InputState) (before block : List ℕ) (count : ℕ) → (count ≡ 0 → is_start kind ≡ true) → endless ≤ number
    → FillsFrom {E = ConvertFault} old new before block 0 (head_size kind) (Ok count) →
    NextBlock kind number old new block (Err (answer.Block number fault.Endless))
unfolding outer_fault
endless_next kind number old new before block count some many filled =
    let size = filled.fills.1 in
    let all = there kind filled.bytes (λ none. some (omega (arith, size, none))) in
    let over = le-ltb number endless many in
    record {
      bytes = filled.bytes;
      takes = filled.takes;
      answers = (refl, rw (all, over) refl, λ e. absurd (cc (e)));
      failed = filled.failed;
    }

pub head_cut : (kind : Kind) (number : ℕ) (old new : InputState) (before block : List ℕ) (count : ℕ) → (count ≡ 0 → is_start kind ≡ true) →
    number < endless → count < head_size kind
    → FillsFrom {E = ConvertFault} old new before block 0 (head_size kind) (Ok count) →
    NextBlock kind number old new block (Err (answer.Block number fault.Cut))
unfolding outer_fault
head_cut kind number old new before block count some few short filled =
    let size = filled.fills.1 in
    let all = there kind filled.bytes (λ none. some (omega (arith, size, none))) in
    let under = lt-ltb number endless few in
    let cut = lt-ltb (length filled.bytes) (head_size kind) (omega (arith, size, short)) in
    record {
      bytes = filled.bytes;
      takes = filled.takes;
      answers = (refl, rw (all, under, cut) refl, λ e. filled.fills.3 short);
      failed = filled.failed;
    }

-- the first bytes of a block are there
pub record IsHead (kind : Kind) (old mid : InputState) (block : List ℕ) : Type 0 where
  pub bytes : List ℕ
  pub takes : Takes old mid bytes
  pub front : take (head_size kind) block ≡ bytes
  pub size : length bytes ≡ head_size kind
  pub failed : mid.failed ≡ old.failed

pub head_there : (kind : Kind) (old mid : InputState) (before block : List ℕ) (count : ℕ) → head_size kind ≤ count
    → FillsFrom {E = ConvertFault} old mid before block 0 (head_size kind) (Ok count) → IsHead kind old mid block
head_there kind old mid before block count whole filled =
    let within = filled.fills.2 in
    let is : count ≡ head_size kind = omega (arith, within, whole) in
    record {
      bytes = filled.bytes;
      takes = filled.takes;
      front = ap (λ (n : ℕ). take n block) (sym is) ∙ filled.fills.0;
      size = let size = filled.fills.1 in omega (arith, size, is);
      failed = filled.failed ∙ or-false old.failed;
    }

-- the size that the first bytes say, whatever follows
size_then : (kind : Kind) (old mid : InputState) (block more : List ℕ) (r : Result ℕ BlockFault) (h : IsHead kind old mid block) →
    r ≡ size_in kind (take (head_size kind) block) → size_of kind (h.bytes ++ more) ≡ r
size_then kind old mid block more r h says =
    ap (size_in kind) (take-append-le (head_size kind) h.bytes more (let size = h.size in omega (arith, size)) ∙
    take_all (head_size kind) h.bytes (let size = h.size in omega (arith, size)) ∙ sym h.front) ∙ sym says

-- they are there, and no block is too many
begun : (kind : Kind) (old mid : InputState) (block more : List ℕ) (number : ℕ) (h : IsHead kind old mid block) → number < endless
    → outer_fault number kind (h.bytes ++ more) ≡ size_fault (size_of kind (h.bytes ++ more)) (length (h.bytes ++ more))
unfolding outer_fault
begun kind old mid block more number h few =
    let size = h.size in
    let some = some_head kind in
    let long = length-append h.bytes more in
    let all = there kind (h.bytes ++ more) (λ none. absurd (omega (arith, none, size, some, long))) in
    let under = lt-ltb number endless few in
    let whole = le-ltb (length (h.bytes ++ more)) (head_size kind) (omega (arith, size, long)) in
    rw (all, under, whole) refl

pub size_faulty : (kind : Kind) (number : ℕ) (old mid : InputState) (block : List ℕ) (f : BlockFault) → IsHead kind old mid block → number < endless
    → Err f ≡ size_in kind (take (head_size kind) block) → is_cut f ≡ false → NextBlock kind number old mid block (Err (answer.Block number f))
size_faulty kind number old mid block f h few says uncut =
    let known = size_then kind old mid block [] (Err f) h says in
    let outer = begun kind old mid block [] number h few ∙ ap (λ (r : Result ℕ BlockFault). size_fault r (length (h.bytes ++ []))) known in
    record {
      bytes = h.bytes;
      takes = h.takes;
      answers = (refl, rw append-nil at outer, λ e. absurd (cc (e, uncut)));
      failed = h.failed ∙ sym (or-false old.failed);
    }

pub body_failed : (kind : Kind) (number : ℕ) (old mid new : InputState) (block after : List ℕ) (size : ℕ) (e : ConvertFault) → IsHead kind old mid block
    → Ok size ≡ size_in kind (take (head_size kind) block) → FillsSeen {E = ConvertFault} mid new block after (head_size kind) size (Err e) →
    NextBlock kind number old new after (Err answer.Read)
body_failed kind number old mid new block after size e h says filled =
    let known = size_then kind old mid block filled.bytes (Ok size) h says in
    let short = filled.passes in
    let whole = h.size in
    let long = length-append h.bytes filled.bytes in
    record {
      bytes = h.bytes ++ filled.bytes;
      takes = Takes-trans old mid new h.bytes filled.bytes h.takes filled.takes;
      answers = inr (size, omega (arith, whole, long), known, omega (arith, short, whole, long));
      failed = filled.failed ∙ or-true mid.failed ∙ sym (or-true old.failed);
    }

pub body_cut : (kind : Kind) (number : ℕ) (old mid new : InputState) (block after : List ℕ) (size count : ℕ) → IsHead kind old mid block → number < endless
    → Ok size ≡ size_in kind (take (head_size kind) block) → count < size → FillsSeen {E = ConvertFault} mid new block after (head_size kind) size (Ok count)
    → NextBlock kind number old new after (Err (answer.Block number fault.Cut))
body_cut kind number old mid new block after size count h few says short filled =
    let known = size_then kind old mid block filled.bytes (Ok size) h says in
    let place = filled.passes.0 in
    let whole = h.size in
    let long = length-append h.bytes filled.bytes in
    let cut = lt-ltb (length (h.bytes ++ filled.bytes)) size (omega (arith, short, place, whole, long)) in
    let outer = begun kind old mid block filled.bytes number h few ∙ ap (λ (r : Result ℕ BlockFault). size_fault r (length (h.bytes ++ filled.bytes))) known in
    record {
      bytes = h.bytes ++ filled.bytes;
      takes = Takes-trans old mid new h.bytes filled.bytes h.takes filled.takes;
      answers = (refl, rw cut at outer, λ e. filled.passes.2 short);
      failed = filled.failed ∙ ap (λ (b : Bool). b || false) h.failed;
    }

pub whole_next : (kind : Kind) (number : ℕ) (old mid new : InputState) (block after : List ℕ) (size count : ℕ) → IsHead kind old mid block → number < endless
    → Ok size ≡ size_in kind (take (head_size kind) block) → size ≤ count → most_seen ≤ length block → least_size kind ≤ size
    → FillsSeen {E = ConvertFault} mid new block after (head_size kind) size (Ok count) → NextBlock kind number old new after (Ok (Some size))
whole_next kind number old mid new block after size count h few says whole room least filled =
    let known = size_then kind old mid block filled.bytes (Ok size) h says in
    let place = filled.passes.0 in
    let within = filled.passes.1 in
    let is : count ≡ size = omega (arith, whole, within) in
    let first = h.size in
    let long = length-append h.bytes filled.bytes in
    let all : length (h.bytes ++ filled.bytes) ≡ size = omega (arith, place, is, first, long) in
    record {
      bytes = h.bytes ++ filled.bytes;
      takes = Takes-trans old mid new h.bytes filled.bytes h.takes filled.takes;
      answers = (
        few,
        ap (λ (xs : List ℕ). seen_of (xs ++ filled.bytes)) (sym h.front) ∙ filled.shows is,
        all,
        let same = filled.size in omega (arith, same, room),
        least,
        record { head = omega (arith, first, long); size = known ∙ ap Ok (sym all) },
      );
      failed = filled.failed ∙ ap (λ (b : Bool). b || false) h.failed;
    }
