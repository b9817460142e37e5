-- Facts about the change of a record while older hosts are there, which hold for each change that it may make.
use Rattle.mq_link.proofs.Common.{Bool, true, false, cond, ◌&&◌, ◌||◌, ℕ, None, Some, IfSome, option_map, Kind, IsIn, IsEx, ToIn, ToEx, Allow, Block, Hosts}
use Rattle.mq_link.proofs.Common.{Timing, GroupState, translated, NamedSources, GroupChange, change_of}
use Rattle.std.specs.FinSet as set

module _ (P : GroupChange → Type 0) (mutes : Bool) (timing : Timing) (now : ℕ) (g : GroupState) (named : NamedSources)
    (of_named : (kind : Kind) → P (change_of timing now g kind named))
    (of_none : P (change_of timing now g ToEx set.empty))
  where
    unless : (b : Bool) (kind : Kind) → IfSome (option_map (λ (r : Kind × NamedSources). change_of timing now g r.0 r.1) (cond b None (Some (kind, named)))) P
    unless true kind = tt
    unless false kind = of_named kind

    emptied : (b : Bool) →
        IfSome (option_map (λ (r : Kind × NamedSources). change_of timing now g r.0 r.1) (cond b (Some (ToEx, set.empty)) (Some (ToEx, named)))) P
    emptied true = of_none
    emptied false = of_named ToEx

    pub of_translated : (muted : Bool) (hosts : Hosts) (kind : Kind) →
        IfSome (option_map (λ (r : Kind × NamedSources). change_of timing now g r.0 r.1) (translated mutes muted hosts kind named)) P
    of_translated true hosts kind = tt
    of_translated false hosts Block = unless (hosts.v1 || hosts.v2) Block
    of_translated false hosts ToEx = emptied (hosts.v1 || hosts.v2)
    of_translated false hosts ToIn = unless (mutes && hosts.v1) ToIn
    of_translated false hosts IsIn = of_named IsIn
    of_translated false hosts IsEx = of_named IsEx
    of_translated false hosts Allow = of_named Allow
