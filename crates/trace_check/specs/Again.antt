-- An entry that is put twice.
use Rattle.std.specs.Prelude.{◌≡◌, ℕ, Bool, true, false, cond, Option, Some, refl}
use Rattle.std.proofs.Common.{sym, ap, ◌∙◌, eqb}
use Rattle.std.proofs.lemmas.Cmp.{nat_cmp_total}
use Rattle.std.specs.FinMap.{FinMap, get, insert, same_map, get-insert, nat_cmp-IsAntisymmetric}
use Rattle.std.specs.Ordering.{nat_cmp}
use Rattle.std.specs.Cmp.{unsigned_tied}
use Rattle.paging.specs.declared.entry.Entry.{Entry}

get_put : (set : FinMap nat_cmp Entry) (e : Entry) (q : ℕ) → get (insert set e.page e) q ≡ cond (eqb q e.page) (Some e) (get set q)
get_put set e q = get-insert nat_cmp_total set e.page e q ∙ ap (λ b. cond b (Some e) (get set q)) (unsigned_tied q e.page)

twice : (is : Bool) (e o : Option Entry) → cond is e (cond is e o) ≡ cond is e o
twice true e o = refl
twice false e o = refl

-- the second time changes nothing
pub put_again : (set : FinMap nat_cmp Entry) (e : Entry) → insert (insert set e.page e) e.page e ≡ insert set e.page e
put_again set e = same_map nat_cmp_total nat_cmp-IsAntisymmetric _ _ (λ q.
    get_put (insert set e.page e) e q
    ∙ (ap (λ (o : Option Entry). cond (eqb q e.page) (Some e) o) (get_put set e q)
    ∙ (twice (eqb q e.page) (Some e) (get set q) ∙ sym (get_put set e q))))
