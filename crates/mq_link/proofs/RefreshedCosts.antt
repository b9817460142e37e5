-- The comparisons for a record of hosts that still want the named sources.
use Rattle.mq_link.proofs.Common.{◌≡◌, ℕ, zero, suc, ◌+◌, ◌*◌, ◌^◌, ◌/◌, ◌<◌, ◌≤◌, ◌==◌, Bool, true, false, cond, not, ◌&&◌, ◌||◌, List, [], ◌∷◌, length}
use Rattle.mq_link.proofs.Common.{get_or, min, Option, None, Some, IfSome, refl, sym, ap, ◌∙◌, arith, add-one, list_any, nat_cmp, list_map, length-map}
use Rattle.mq_link.proofs.Common.{pow-succ', true≢false, eqb-true, Spends, Spends-join_within, Spends-within, IsAscending, bitlen, bitlen-few, bitlen-le, Kind}
use Rattle.mq_link.proofs.Common.{IsIn, IsEx, ToIn, ToEx, Allow, Block, Hosts, Source, FilterMode, is_include, is_stopped, item_is_stopped, keeps_unnamed}
use Rattle.mq_link.proofs.Common.{takes_none_away, hosts_of, translated, with_sources, named_in, number_in, timers_in, NamedSources, get-found, one_if}
use Rattle.mq_link.proofs.Common.{most_set, ties, blocks, StatementKind, statement_of, v1_mutes_leave, least_merge, least_work, RecordOf, Setting, is_muted}
use Rattle.mq_link.proofs.Common.{StatesJoin, StatesLeave, is_restart, most_asked, most_blocked, most_changed, most_copied, most_hosts, most_merged}
use Rattle.mq_link.proofs.Common.{most_started, most_tried, restarts}
use Rattle.std.specs.FinMap as map
use Rattle.std.specs.FinSet as set
use Rattle.mq_link.specs.declared.statement.StatementKind.TheVariants.{Record, OlderJoin, OlderLeave}
use Rattle.mq_link.specs.State.{Groups, group_at, sources_of}
use Rattle.mq_link.proofs.{LeastCosts.few_members, LeastCosts.merge_spends, OneNamed.names-one}

-- the kind of a statement that sets timers anew
pub restart_kind : (said : StatementKind) → is_restart said ≡ true → (kind : Kind) × (said ≡ Record kind) × (restarts kind ≡ true)
restart_kind (Record kind) is = (kind, refl, is)
restart_kind _ is = absurd (true≢false (sym is))

-- no older host mutes such a record
pub restart_as : (mutes muted : Bool) (hosts : Hosts) (kind : Kind) (named : NamedSources) → restarts kind ≡ true →
    translated mutes muted hosts kind named ≡ with_sources named (cond muted None (Some (kind, false)))
restart_as mutes true hosts kind named is = refl
restart_as mutes false hosts IsIn named is = refl
restart_as mutes false hosts Allow named is = refl
restart_as mutes false hosts _ named is = absurd (true≢false (sym is))

pub kept_unless : (muted : Bool) (kind : Kind) (acts : Option (Kind × Bool)) → acts ≡ cond muted None (Some (kind, false)) →
    IfSome acts (λ (a : Kind × Bool). ◌≡◌ {A = Kind × Bool} a (kind, false))
kept_unless true kind None is = tt
kept_unless false kind None is = cc
kept_unless _ kind _ is = cc

-- a record that takes no source away leaves those alone that it doesn't name, where none of INCLUDE is stopped
pub restarts_keep : (kind : Kind) → restarts kind ≡ true → takes_none_away kind ≡ true
restarts_keep IsIn is = refl
restarts_keep Allow is = refl
restarts_keep _ is = absurd (true≢false (sym is))

pub blocks_is : (kind : Kind) → blocks kind ≡ true → kind ≡ Block
blocks_is Block is = refl
blocks_is _ is = absurd (true≢false (sym is))

pub none_taken_keeps : {K : Type 0} (kind : Kind) (mode : FilterMode) (row : List (Source K)) → takes_none_away kind ≡ true →
    (is_include mode ≡ true → list_any item_is_stopped row ≡ false) → keeps_unnamed kind mode row ≡ true
none_taken_keeps kind mode row is none = ap (λ b. b && (not (is_include mode) || not (list_any item_is_stopped row))) is ∙
    by_mode (is_include mode) (list_any item_is_stopped row) none
  where
    by_mode : (b s : Bool) → (b ≡ true → s ≡ false) → (not b || not s) ≡ true
    by_mode true true none = absurd (true≢false (none refl))
    by_mode true false none = refl
    by_mode false s none = refl

-- a BLOCK that isn't muted acts as one, of all sources that it names
pub block_acts : (mutes muted : Bool) (hosts : Hosts) (named : NamedSources) (kind : Kind) (is_emptied : Bool) →
    translated mutes muted hosts Block named ≡ with_sources named (Some (kind, is_emptied)) → (kind ≡ Block) × (cond is_emptied set.empty named ≡ named)
block_acts mutes true hosts named kind is_emptied is = cc
block_acts mutes false hosts named kind is_emptied is = by_test (hosts.v1 || hosts.v2) is
  where
    by_test : (b : Bool) → cond b None (Some (Block, named)) ≡ with_sources named (Some (kind, is_emptied)) → (kind ≡ Block) ×
        (cond is_emptied set.empty named ≡ named)
    by_test true is = cc
    by_test false is =
        let same : ◌≡◌ {A = Kind × NamedSources} (Block, named) (kind, cond is_emptied set.empty named) = cc in
        (sym (ap (λ (p : Kind × NamedSources). p.0) same), sym (ap (λ (p : Kind × NamedSources). p.1) same))

-- no source of a row is stopped, where no timer is
none_any : {X : Type 0} (p : X → Bool) (xs : List X) → ((k : ℕ) (d : X) → k < length xs → p (get_or xs k d) ≡ false) → list_any p xs ≡ false
none_any p [] each = refl
none_any p (x ∷ xs) each = rw (each 0 x (omega arith)) (none_any p xs (λ k d within. each (suc k) d (omega arith)))

pub none_stopped_in : {K : Type 0} (number : K → ℕ) (row : List (Source K)) → IsAscending (number_in number) row →
    ((s : ℕ) → is_stopped (map.get (timers_in number row) s) ≡ false) → list_any item_is_stopped row ≡ false
none_stopped_in number row up none =
    none_any item_is_stopped row (λ k d within.
    let s = number_in number (get_or row k d) in
    ap is_stopped (sym (get-found number row k d s up within refl)) ∙ none s)

-- The kind that a statement acts as, if it is such a record.
abbrev pub ActsSo : StatementKind → Kind → Bool → Type 0
ActsSo said kind is_emptied = (k : Kind) → said ≡ Record k → restarts k ≡ true → ◌≡◌ {A = Kind × Bool} (kind, is_emptied) (k, false)

abbrev pub BlocksSo : StatementKind → Kind → Bool → NamedSources → Type 0
BlocksSo said kind is_emptied named = (k : Kind) → said ≡ Record k → blocks k ≡ true → (kind ≡ Block) × (cond is_emptied set.empty named ≡ named)

-- a list of one names a source
one_names : {K : Type 0} (number : K → ℕ) (xs : List K) → length xs ≡ 1 → set.empty ≡ named_in number xs → ⊥
one_names number [] one is = absurd (omega (arith, one))
one_names number (x ∷ []) one is =
    true≢false (sym (names-one number (x ∷ []) x refl (number x) ∙ ties (number x) (number x) refl) ∙ ap (λ named. set.contains named (number x))
    (sym is) ∙ set.contains-empty nat_cmp (number x))
one_names number (x ∷ y ∷ xs) one is = absurd (omega (arith, one))

-- the merge of a group with the sources that are left of those that are named
pub merge_by : {K : Type 0} (number : K → ℕ) (sources : ℕ) (said : StatementKind) (kind : Kind) (is_emptied : Bool) (before left : List K)
    (acts : Option (Kind × NamedSources)) (old between new : ℕ)
    → acts ≡ with_sources (named_in number before) (Some (kind, is_emptied))
    → (is_emptied ≡ false → left ≡ before) → length left ≤ length before → ActsSo said kind is_emptied → BlocksSo said kind is_emptied (named_in number before)
    → Spends 0 (most_hosts said) old between → Spends (min sources (length left)) (sources + length left) between new
    → (takes_none_away kind ≡ true → length left ≡ 1 → Spends 0 (bitlen sources) between new)
    → Spends (least_merge sources acts) (most_changed said sources (length before)) old new
merge_by number sources said kind is_emptied before left acts old between new acts_is same fewer so blocks_so first merge halves =
    by_said said so blocks_so first
  where
    all : Spends 0 2 old between → Spends (least_merge sources acts) (sources + length before + 2) old new
    all spent = merge_spends number sources kind is_emptied before left acts old between new acts_is same fewer spent merge

    by_count : (b : Bool) → (length before == 1) ≡ b → (b ≡ true → Spends 0 (bitlen sources) between new) → left ≡ before → Spends 0 0 old between →
        Spends 0 (cond b (bitlen sources) (sources + length before)) old new
    by_count true one few is none = Spends-join_within 0 (bitlen sources) none (few refl) (omega arith) (omega arith)
    by_count false other few is none = Spends-join_within 0 (sources + length before) none merge (omega arith) (let n = ap length is in omega (arith, n))

    -- one named source of a BLOCK is left
    by_one : (b : Bool) → (length before == 1) ≡ b → kind ≡ Block → cond is_emptied set.empty (named_in number before) ≡ named_in number before →
        Spends 0 2 old between → Spends 0 (cond b (bitlen sources) (sources + length before) + 2) old new
    by_one false other is whole spent = let most = all spent in Spends-within 0 (sources + length before + 2) most (omega arith) (omega arith)
    by_one true one is whole spent = by_emptied is_emptied refl whole
      where
        by_emptied : (e : Bool) → is_emptied ≡ e → cond e set.empty (named_in number before) ≡ named_in number before → Spends 0 (bitlen sources + 2) old new
        by_emptied true e_is gone = absurd (one_names number before (eqb-true (length before) 1 one) gone)
        by_emptied false e_is kept =
            Spends-join_within 0 (bitlen sources + 2) spent (halves (ap takes_none_away is) (ap length (same e_is) ∙ eqb-true (length before) 1 one))
            (omega arith) (omega arith)

    by_block : (k : Kind) (b : Bool) → blocks k ≡ b →
        (b ≡ true → (kind ≡ Block) × (cond is_emptied set.empty (named_in number before) ≡ named_in number before)) → Spends 0 2 old between →
        Spends (least_merge sources acts) (cond b (most_merged sources (length before) + 2) (sources + length before + 2)) old new
    by_block k false other so spent = all spent
    by_block k true is so spent =
        let least = all spent in
        let most = by_one (length before == 1) refl (so refl).0 (so refl).1 spent in
        record { at_least = least.at_least; at_most = most.at_most }

    by_restart : (k : Kind) (b : Bool) → restarts k ≡ b → (b ≡ true → ◌≡◌ {A = Kind × Bool} (kind, is_emptied) (k, false)) →
        (blocks k ≡ true → (kind ≡ Block) × (cond is_emptied set.empty (named_in number before) ≡ named_in number before)) →
        Spends 0 (cond b 0 2) old between →
        Spends (least_merge sources acts)
        (cond b (most_merged sources (length before)) (cond (blocks k) (most_merged sources (length before) + 2) (sources + length before + 2))) old new
    by_restart k false other so blocks_it spent = by_block k (blocks k) refl blocks_it spent
    by_restart k true is so blocks_it spent =
        let emptied = ap (λ (p : Kind × Bool). p.1) (so refl) in
        let kept = same emptied in
        let restarts_it = restarts_keep kind (ap (λ (p : Kind × Bool). restarts p.0) (so refl) ∙ is) in
        let least = all (Spends-within 0 2 spent (omega arith) (omega arith)) in
        let most = by_count (length before == 1) refl (λ one. halves restarts_it (ap length kept ∙ eqb-true (length before) 1 one)) kept spent in
        record { at_least = least.at_least; at_most = most.at_most }

    by_said : (said : StatementKind) → ActsSo said kind is_emptied → BlocksSo said kind is_emptied (named_in number before) →
        Spends 0 (most_hosts said) old between → Spends (least_merge sources acts) (most_changed said sources (length before)) old new
    by_said (Record k) so blocks_it spent = by_restart k (restarts k) refl (so k refl) (blocks_it k refl) spent
    by_said (OlderJoin version) so blocks_it spent = all spent
    by_said OlderLeave so blocks_it spent = all spent

-- it asks for nothing, as what it acts as does
pub asks_by : (said : StatementKind) (kind : Kind) (is_emptied : Bool) {P : Type 0} → ActsSo said kind is_emptied → (restarts kind ≡ true → P) →
    is_restart said ≡ true → P
asks_by (Record k) kind is_emptied so nothing is = nothing (ap (λ (p : Kind × Bool). restarts p.0) (so k refl is) ∙ is)
asks_by (OlderJoin version) kind is_emptied so nothing is = absurd (true≢false (sym is))
asks_by OlderLeave kind is_emptied so nothing is = absurd (true≢false (sym is))

-- so what is asked for spends nothing
pub asks_most : {K : Type 0} (said : StatementKind) (asks : Bool) (asked : List K) (size sources named : ℕ) →
    (is_restart said ≡ true → (asks ≡ false) × (asked ≡ [])) → size ≤ sources + named
    → most_started (length asked) size + one_if asks ≤ most_asked said sources named
asks_most said asks asked size sources named none few = by_test (is_restart said) refl
  where
    one : (b : Bool) → one_if b ≤ 1
    one true = omega arith
    one false = omega arith

    started : (b : Bool) → cond b 0 (2 * size) ≤ 2 * size
    started true = omega arith
    started false = omega arith

    by_test : (b : Bool) → is_restart said ≡ b → most_started (length asked) size + one_if asks ≤ cond b 0 (2 * (sources + named) + 1)
    by_test true is =
        let parts = none is in
        let first = ap (λ (xs : List _). most_started (length xs) size) parts.1 in
        let second = ap one_if parts.0 in
        omega (arith, first, second)
    by_test false is = omega (arith, one asks, started (length asked == 0), few)

-- Twice the binary digits of a number are no more than it and two.
twice_bitlen : (n : ℕ) → 2 * bitlen n ≤ n + 2
twice_bitlen n =
    let half = n / 2 in
    let most = bitlen-le (half + 1) n (below half n (omega arith)) in
    omega (arith, most)
  where
    double : (m : ℕ) → 2 ^ (suc m) ≡ 2 * 2 ^ m
    double m = pow-succ' 2 m

    above : (m : ℕ) → m + 1 ≤ 2 ^ m
    above zero = omega arith
    above (suc m) = let rest = above m in let twice : 2 ^ (suc m) ≡ 2 * 2 ^ m = double m in omega (arith, rest, twice)

    below : (m n : ℕ) → n < 2 * m + 2 → n < 2 ^ (m + 1)
    below m n few = let rest = above m in let twice : 2 ^ (m + 1) ≡ 2 * 2 ^ m = ap (λ k. 2 ^ k) (add-one m) ∙ double m in omega (arith, rest, few, twice)

-- A statement tried in place, and then done on a copy, takes at most six comparisons for each source, and so on.
pub tried_and_copied : (said : StatementKind) (sources named groups : ℕ) →
    most_tried said sources named + (most_blocked said sources named + most_copied said sources named groups)
    ≤ 6 * (sources + named) + 17 + bitlen groups
tried_and_copied said sources named groups = by_said said
  where
    by_count : (b : Bool) → (named == 1) ≡ b →
        2 + cond b (bitlen sources)
        (sources + bitlen sources) +
        (0 + (cond b (bitlen sources) (sources + named) + 0 + 3 * (sources + named) + 9 + bitlen groups)) ≤ 6 *
        (sources + named) + 17 + bitlen groups
    by_count true one = let n = eqb-true named 1 one in let few = bitlen-few sources in omega (arith, n, few)
    by_count false other = let few = bitlen-few sources in omega (arith, few)

    by_block : (b : Bool) → (named == 1) ≡ b →
        0 + (4 + cond b (bitlen sources) 0 +
        (cond b (bitlen sources) (sources + named) + 2 + (2 * (sources + named) + 1) + 3 * (sources + named) + 9 + bitlen groups)) ≤ 6 *
        (sources + named) + 17 + bitlen groups
    by_block true one = let n = eqb-true named 1 one in let few = twice_bitlen sources in omega (arith, n, few)
    by_block false other = omega arith

    others : 0 + (0 + (sources + named + 2 + (2 * (sources + named) + 1) + 3 * (sources + named) + 9 + bitlen groups)) ≤ 6 *
        (sources + named) + 17 + bitlen groups
    others = omega arith

    by_said : (said : StatementKind) →
        most_tried said sources named + (most_blocked said sources named + most_copied said sources named groups)
        ≤ 6 * (sources + named) + 17 + bitlen groups
    by_said (Record IsIn) = by_count (named == 1) refl
    by_said (Record Allow) = by_count (named == 1) refl
    by_said (Record Block) = by_block (named == 1) refl
    by_said _ = others

-- A BLOCK done in place takes no more than that either.
pub blocked_few : (said : StatementKind) (sources named groups : ℕ) →
    most_blocked said sources named + 3 * sources + 5 + bitlen groups ≤ 6 * (sources + named) + 17 + bitlen groups
blocked_few said sources named groups = by_said said
  where
    by_test : (c : Bool) → cond c (bitlen sources) 0 ≤ sources
    by_test true = bitlen-few sources
    by_test false = omega arith

    by_said : (said : StatementKind) → most_blocked said sources named + 3 * sources + 5 + bitlen groups ≤ 6 * (sources + named) + 17 + bitlen groups
    by_said (Record Block) = omega (arith, by_test (named == 1))
    by_said _ = omega arith

-- and more digits are no fewer comparisons
pub set-mono : (sources named few digits : ℕ) → few ≤ digits → most_set sources named few ≤ most_set sources named digits
set-mono sources named few digits less = by_count (named == 1)
  where
    by_count : (b : Bool) → cond b (bitlen sources + sources + 5 + few) (3 * sources + bitlen sources + named + 4 + few) ≤ cond b
        (bitlen sources + sources + 5 + digits) (3 * sources + bitlen sources + named + 4 + digits)
    by_count true = omega (arith, less)
    by_count false = omega (arith, less)

-- Nor is what such a record spends there.
pub set_few : (sources named groups : ℕ) → 2 + most_set sources named (bitlen groups) ≤ 6 * (sources + named) + 17 + bitlen groups
set_few sources named groups = by_count (named == 1)
  where
    by_count : (b : Bool) → 2 + cond b (bitlen sources + sources + 5 + bitlen groups) (3 * sources + bitlen sources + named + 4 + bitlen groups) ≤ 6 *
        (sources + named) + 17 + bitlen groups
    by_count true = let few = bitlen-few sources in omega (arith, few)
    by_count false = let few = bitlen-few sources in omega (arith, few)

-- The least comparisons of a statement's merge are at most its named sources.
least_translated : (sources n : ℕ) (mutes muted : Bool) (hosts : Hosts) (kind : Kind) (named : NamedSources) → set.len named ≤ n →
    least_merge sources (translated mutes muted hosts kind named) ≤ min sources n
least_translated sources n mutes true hosts kind named few = omega arith
least_translated sources n mutes false hosts IsIn named few = omega (arith, few)
least_translated sources n mutes false hosts IsEx named few = omega (arith, few)
least_translated sources n mutes false hosts Allow named few = omega (arith, few)
least_translated sources n mutes false hosts Block named few = by_test (hosts.v1 || hosts.v2)
  where
    by_test : (b : Bool) → least_merge sources (cond b None (Some (Block, named))) ≤ min sources n
    by_test true = omega arith
    by_test false = omega (arith, few)
least_translated sources n mutes false hosts ToEx named few = by_test (hosts.v1 || hosts.v2)
  where
    by_test : (b : Bool) → least_merge sources (cond b (Some (ToEx, set.empty)) (Some (ToEx, named))) ≤ min sources n
    by_test true = let none = set.len-empty nat_cmp in omega (arith, none)
    by_test false = omega (arith, few)
least_translated sources n mutes false hosts ToIn named few = by_test (mutes && hosts.v1)
  where
    by_test : (b : Bool) → least_merge sources (cond b None (Some (ToIn, named))) ≤ min sources n
    by_test true = omega arith
    by_test false = omega (arith, few)

pub least_named : {K : Type 0} (number : K → ℕ) (at : Setting) (group : ℕ) (said : StatementKind) (members : List K) (groups : Groups) →
    least_work at group (statement_of said (named_in number members)) groups ≤ min (sources_of (group_at groups group)) (length members)
least_named number at group said members groups = by_said said
  where
    none : set.len (set.empty {R = nat_cmp}) ≤ length members
    none = let n = set.len-empty nat_cmp in omega (arith, n)

    few : set.len (named_in number members) ≤ length members
    few = let n = few_members (list_map number members) in let m = length-map members number in omega (arith, n, m)

    by_said : (said : StatementKind) → least_work at group (statement_of said (named_in number members)) groups ≤ min
        (sources_of (group_at groups group)) (length members)
    by_said (Record kind) = least_translated (sources_of (group_at groups group)) (length members) (v1_mutes_leave at.config.family)
        (is_muted at.config group (RecordOf kind (named_in number members))) (hosts_of (group_at groups group).group at.now) kind (named_in number members) few
    by_said (OlderJoin version) = by_test (is_muted at.config group (StatesJoin version))
      where
        by_test : (b : Bool) → least_merge (sources_of (group_at groups group)) (cond b None (Some (IsEx, set.empty))) ≤ min
            (sources_of (group_at groups group)) (length members)
        by_test true = omega arith
        by_test false = let n = set.len-empty nat_cmp in omega (arith, n)
    by_said OlderLeave = least_translated (sources_of (group_at groups group)) (length members) (v1_mutes_leave at.config.family)
        (is_muted at.config group StatesLeave) (hosts_of (group_at groups group).group at.now) ToIn set.empty none
