-- The bytes after a hop-by-hop header, as the code reads them.
use Rattle.std.proofs.Common.{◌≡◌, ◌≤◌, ◌+◌, ◌-◌, ◌*◌, ℕ, List, length, take, drop, Bool, refl, arith}
use Rattle.std.{specs.Prelude.slice_index, proofs.lemmas.Bool.le-ltb}
use Rattle.mq_pcap.{specs.Frame.mld_in, specs.Frame.behind_options, specs.Options.has_router_alert, proofs.Walk.from_place}

pub mld_behind_options : (packet payload : List ℕ) (n : ℕ) (alert : Bool) → 8 ≤ length payload → n ≡ slice_index payload 1 →
    n * 8 + 8 ≤ length payload → slice_index payload 0 ≡ 58 →
    alert ≡ has_router_alert (take (n * 8 + 8 - 2) (drop 2 payload)) →
    mld_in packet alert (take (length payload - (n * 8 + 8)) (drop (n * 8 + 8) payload)) ≡ behind_options packet payload
unfolding behind_options
mld_behind_options packet payload n alert long at fits next is_alert =
    let no_cut = le-ltb (length payload) 8 long in
    let no_cut_options = le-ltb (length payload) (slice_index payload 1 * 8 + 8) (omega (arith, at)) in
    rw (from_place (n * 8 + 8) payload, is_alert, at, no_cut, no_cut_options, next) refl
