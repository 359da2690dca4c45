-- By which translations a step is judged.
use Rattle.std.proofs.Common.{◌≡◌, ℕ, List, [], ◌∷◌, ◌++◌, Bool, true, false, cond, reverse, append_assoc, refl, sym, ap, ◌∙◌}
use Rattle.std.proofs.lemmas.List.{reverse-append}
use Rattle.std.specs.List.{All}
use Rattle.std.proofs.lemmas.List.Elements.{All-head, All-tail}
use Rattle.machine_model.specs.Step.{Result}
use Rattle.machine_model.specs.Run.{Set}
use Rattle.machine_model.specs.Taken.{Taken, behind, steps_by, loads_root}
use Rattle.machine_model.specs.Keeping.{leaves, set_left, held_by}
use Rattle.machine_model.specs.Joined.{TakenJoin}
use Rattle.kept_laws.specs.Judged.{TakenOn, HeldStays, HeldBack}

-- ---- the steps that a run takes

pub taken_on : TakenJoin → TakenOn
taken_on join m old mid new sets set reports report steps is =
    join m old mid sets (set ∷ []) reports steps ∙ ap (λ (r : Result). steps_by m old sets ++ behind mid set r (λ after. [])) is

-- ---- the translations

pub last_first : (steps : List Taken) (t : Taken) → reverse (steps ++ t ∷ []) ≡ t ∷ reverse steps
last_first steps t = reverse-append steps (t ∷ [])

either : (b : Bool) (x y : Set) → b ≡ false → cond b x y ≡ y
either true x y e = absurd (let f : true ≡ false = e in cc)
either false x y e = refl

first : (b : Bool) (x y : Set) → b ≡ true → cond b x y ≡ x
first true x y e = refl
first false x y e = absurd (let f : false ≡ true = e in cc)

pub held_stays : HeldStays
held_stays steps t b plain =
    ap (λ (l : List Taken). held_by l b.set) (last_first steps t)
    ∙ either (loads_root t) (set_left t.after.cpu.cr3 (t ∷ reverse steps)) b.set plain

-- steps that leave other values are passed over
skipped : (c : ℕ) (since rest : List Taken) → All (λ u. leaves c u ≡ false) since → set_left c (reverse since ++ rest) ≡ set_left c rest
skipped c [] rest h = refl
skipped c (u ∷ us) rest h =
    ap (λ (l : List Taken). set_left c (l ++ rest)) (reverse-append (u ∷ []) us)
    ∙ (ap (set_left c) (append_assoc (reverse us) (u ∷ []) rest)
    ∙ (skipped c us (u ∷ rest) (All-tail (λ v. leaves c v ≡ false) u us h)
    ∙ either (leaves c u) u.set (set_left c rest) (All-head (λ v. leaves c v ≡ false) u us h)))

turned : (old : List Taken) (left : Taken) (since : List Taken) → reverse (old ++ left ∷ since) ≡ reverse since ++ left ∷ reverse old
turned old left since =
    reverse-append old (left ∷ since)
    ∙ (ap (λ (l : List Taken). l ++ reverse old) (reverse-append (left ∷ []) since) ∙ append_assoc (reverse since)
    (left ∷ []) (reverse old))

pub held_back : HeldBack
held_back steps t b old left since loads split is_left is_last =
    let c : ℕ = t.after.cpu.cr3 in
    ap (λ (l : List Taken). held_by l b.set) (last_first steps t)
    ∙ (first (loads_root t) (set_left c (t ∷ reverse steps)) b.set loads
    ∙ (ap (set_left c) (sym (last_first steps t) ∙ (ap reverse split ∙ turned old left since))
    ∙ (skipped c since (left ∷ reverse old) is_last ∙ first (leaves c left) left.set (set_left c (reverse old)) is_left)))
