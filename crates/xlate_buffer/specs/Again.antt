-- An entry that is kept twice.
use Rattle.std.specs.Prelude.{◌≡◌, ℕ, ◌%◌, ◌==◌, Bool, true, false, cond, not, Option, Some, None, refl}
use Rattle.std.proofs.Common.{sym, ap, ◌∙◌, eqb}
use Rattle.std.proofs.lemmas.Cmp.{nat_cmp_total}
use Rattle.std.specs.FinMap.{FinMap, get, retain_keys, same_map, get-insert, get-retain_keys, nat_cmp-IsAntisymmetric}
use Rattle.std.specs.Ordering.{nat_cmp}
use Rattle.std.specs.Cmp.{unsigned_tied}
use Rattle.paging.specs.declared.entry.Entry.{Entry}
use Rattle.xlate_buffer.specs.Calls.{made, Keep}

get_kept : (set : FinMap nat_cmp Entry) (e : Entry) (q : ℕ)
    → get (made (Keep e) set) q ≡ cond (eqb q e.page) (Some e) (cond (not (q % 64 == e.page % 64)) (get set q) None)
get_kept set e q =
    let p : ℕ → Bool = λ page. not (page % 64 == e.page % 64) in
    get-insert nat_cmp_total (retain_keys set p) e.page e q
    ∙ (ap (λ b. cond b (Some e) (get (retain_keys set p) q)) (unsigned_tied q e.page)
    ∙ ap (λ (o : Option Entry). cond (eqb q e.page) (Some e) o)
    (get-retain_keys set p q (λ x t. ap p (sym (nat_cmp-IsAntisymmetric q x t)))))

twice : (is stays : Bool) (e o : Option Entry) → cond is e (cond stays (cond is e (cond stays o None)) None) ≡ cond is e (cond stays o None)
twice true stays e o = refl
twice false true e o = refl
twice false false e o = refl

-- the second time changes nothing
pub kept_again : (set : FinMap nat_cmp Entry) (e : Entry) → made (Keep e) (made (Keep e) set) ≡ made (Keep e) set
kept_again set e = same_map nat_cmp_total nat_cmp-IsAntisymmetric _ _ (λ q.
    get_kept (made (Keep e) set) e q
    ∙ (ap (λ (o : Option Entry). cond (eqb q e.page) (Some e) (cond (not (q % 64 == e.page % 64)) o None)) (get_kept set e q)
    ∙ (twice (eqb q e.page) (not (q % 64 == e.page % 64)) (Some e) (get set q) ∙ sym (get_kept set e q))))
