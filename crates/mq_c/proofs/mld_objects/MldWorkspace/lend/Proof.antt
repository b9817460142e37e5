-- `lend` lends what is behind the pointer, and the object follows it.
use Rattle.mq_c.proofs.Common.{[], ◌∷◌, refl, ‵, ◌$◌, ◌∵◌, !, qed, done, follows, says, mld_workspace_row}
use Rattle.mq_c.{specs.contracts.mld_objects.MldWorkspace.the_row, proofs.Pointers.mld_workspace, proofs.PointerWalks.lend_meets}
use Rattle.mq_c.specs.contracts.mld_objects.MldWorkspace.lend as f
use Rattle.mq_c.proofs.mld_objects.MldWorkspace.lend.Code as code
use Rattle.mq_c.proofs.mld_objects.MldWorkspace.lend.Statement.{statement}

pub lend_spec : {M : Type 1} → statement M
lend_spec 𝓤 𝓛 𝓜 𝓡 wired =
    lend_meets mld_workspace_row mld_workspace (λ d. d.kept) tt (λ d w. record d { kept = w }) (λ d w. refl)
    (λ d w. refl) 𝓤 𝓛 𝓜 𝓡 f.Key.name (f.clauses 𝓛 𝓜.mem 𝓡.returns)
    (λ κs a g r e is. qed 𝓛 (‵ (follows the_row mld_workspace_row a.0.ghost_name r.ghost_name (λ w. record a.0.now { kept = w })) ∷ []) ∵ says ! is $
    done !) (code.unfolded 𝓤 𝓛.H 𝓜 𝓡 wired)
