-- A name that is filled up with zeros.
use Rattle.mq_convert.proofs.Common.{◌≡◌, ◌≤◌, ◌-◌, ◌++◌, ℕ, List, length, take, drop, sym, ap, ◌∙◌, arith, replicate, drop-replicate, take-append-drop}
use Rattle.mq_convert.proofs.Common.{put_mid}
use Rattle.std.proofs.lemmas.Slice.{drop-put_mid, take-put_mid}

pub filled_up : (text copied : List ℕ) (size : ℕ) → size ≡ length text → copied ≡ text → length text ≤ 16 → put_mid 0 size (replicate 16 0) copied
    ≡ text ++ replicate (16 - length text) 0
filled_up text copied count counts is few =
    let n = length text in
    let zeros : List ℕ = replicate 16 0 in
    let size = ap (λ (xs : List ℕ). length xs) is in
    let filled = put_mid 0 count zeros copied in
    let front : take n filled ≡ copied = take-put_mid 0 count zeros copied n (omega (arith, size)) (omega arith) in
    let behind : drop n filled ≡ replicate (16 - n) 0 = drop-put_mid 0 count zeros copied n (omega (arith, counts)) (omega arith)
    (omega (arith, size, counts)) ∙ drop-replicate n 16 0 in
    sym (take-append-drop n filled) ∙ ap (λ (xs : List ℕ). xs ++ drop n filled) (front ∙ is) ∙ ap (λ (xs : List ℕ). text ++ xs) behind
