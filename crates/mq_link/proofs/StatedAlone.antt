-- The outcome of a message of an older version, by that of its statement.
use Rattle.mq_link.proofs.Common.{◌≡◌, ℕ, Bool, true, false, cond, ap, is_allowed, Denied, Groups, Outcome, Setting, Statement, leaving, least_alone}
use Rattle.mq_link.proofs.Common.{least_stated, stated, stated_alone}

-- a property of the statement's outcome and of an outcome that changes nothing
pub alone_by : (P : Outcome → Type 0) (at : Setting) (group : ℕ) (st : Statement) (groups : Groups) → P (stated at group st groups)
    → P (leaving groups Denied) → P (stated_alone at group st groups)
alone_by P at group st groups here nothing = by_test (is_allowed at.config group)
  where
    by_test : (b : Bool) → P (cond b (stated at group st groups) (leaving groups Denied))
    by_test true = here
    by_test false = nothing

-- the outcome and its least cost if the group is allowed, and if it is denied
pub alone_allowed : (at : Setting) (group : ℕ) (st : Statement) (groups : Groups) → is_allowed at.config group ≡ true
    → stated_alone at group st groups ≡ stated at group st groups
alone_allowed at group st groups is = ap (λ b. cond b (stated at group st groups) (leaving groups Denied)) is

pub alone_denied : (at : Setting) (group : ℕ) (st : Statement) (groups : Groups) → is_allowed at.config group ≡ false
    → stated_alone at group st groups ≡ leaving groups Denied
alone_denied at group st groups is = ap (λ b. cond b (stated at group st groups) (leaving groups Denied)) is

pub least_allowed : (at : Setting) (group : ℕ) (st : Statement) (groups : Groups) → is_allowed at.config group ≡ true
    → least_alone at group st groups ≡ least_stated at group st groups
least_allowed at group st groups is = ap (λ b. cond b (least_stated at group st groups) 0) is
