-- The places of a map's groups.
use Rattle.mq_held.proofs.Common.{◌≡◌, ℕ, Option, Some, sym, ap, ◌∙◌, unwrap_or, get_or-map, ScheduledGroup, Groups, unheld, group_at, HasPlace, group_in}
use Rattle.std.specs.FinMap as map
use Rattle.mq_held.proofs.Entries.{place_within, key_at, get-place}

module _ (groups : Groups) (a p : ℕ) (has : HasPlace groups a p) where
  -- the group found there
  pub place-get : map.get groups a ≡ Some (group_in groups p)
  place-get =
      get-place groups a p has.address_is (a, unheld)
      ∙ ap Some (sym (get_or-map (λ (e : ℕ × ScheduledGroup). e.1) (map.entries groups) p (a, unheld) unheld (place_within groups a p has.address_is)))

  pub place-group : group_at groups a ≡ group_in groups p
  place-group = ap (λ (e : Option ScheduledGroup). unwrap_or e unheld) place-get

  -- one place has one address
  pub same-address : (b : ℕ) → HasPlace groups b p → a ≡ b
  same-address b other = sym (key_at groups a p has.address_is (a, unheld)) ∙ key_at groups b p other.address_is (a, unheld)
