-- What is refused is the first item that can't be made.
use Rattle.std.proofs.Common.{◌≡◌, ◌∙◌, sym, ap, ℕ, List, [], ◌∷◌, fold, refl}
use Rattle.std.specs.Prelude.{Result, Ok, Err}
use Rattle.std.proofs.lemmas.List.Sums.{fold-append}
use Rattle.asm_source.specs.declared.tree.SourceItem.{SourceItem}
use Rattle.asm_source.specs.Names.{names_in}
use Rattle.elf_form.specs.ObjectParts.{ObjectParts}
use Rattle.afterburner.specs.declared.fault.BurnCause.{BurnCause}
use Rattle.afterburner.specs.declared.fault.BurnFault.{BurnFault}
use Rattle.afterburner.specs.declared.fault.BurnFault.TheVariants as faults
use Rattle.afterburner.specs.ObjectSoFar.{ObjectSoFar, fresh}
use Rattle.afterburner.specs.Burnt.{Fault, at_line, item_made, next_made, all_made, finished, burnt}
use Rattle.afterburner.specs.Answers.{Fails, Gives}
use Rattle.afterburner.specs.Refused.{IsFirstRefused, Refuses, RefusesAs}
use Rattle.afterburner.proofs.Items.{stays}
use Rattle.afterburner.proofs.Lowest.{lowest_reason, lowest_told}

first_refused : (names : List (List ℕ)) (st : ObjectSoFar) (items : List SourceItem) (line : ℕ) (c : BurnCause)
    → fold (next_made names) (Ok st) items ≡ Err (record { line = line; cause = c }) → IsFirstRefused names st items line c
first_refused names st [] line c e = absurd (cc)
first_refused names st (i ∷ items) line c e =
    let at : (r : Result ObjectSoFar BurnCause) → item_made names st i.body ≡ r → fold (next_made names) (at_line i.line r) items ≡ Err
    (record { line = line; cause = c }) → IsFirstRefused names st (i ∷ items) line c =
    λ r. elim r as (λ v. item_made names st i.body ≡ v → fold (next_made names) (at_line i.line v) items ≡ Err
    (record { line = line; cause = c }) → IsFirstRefused names st (i ∷ items) line c) [
      | Ok st2 ↦ λ m f.
          let rest = first_refused names st2 items line c f in
          record {
            before = i ∷ rest.before;
            item = rest.item;
            after = rest.after;
            so_far = rest.so_far;
            place = ap (λ (xs : List SourceItem). i ∷ xs) rest.place;
            earlier = ap (λ (r : Result ObjectSoFar BurnCause). fold (next_made names) (at_line i.line r) rest.before) m ∙ rest.earlier;
            reason = rest.reason;
            on_line = rest.on_line;
          }
      | Err d ↦ λ m f.
          let told : Result ObjectSoFar Fault = Err (record { line = i.line; cause = d }) in
          let same : told ≡ Err (record { line = line; cause = c }) = sym (stays names (record { line = i.line; cause = d }) items) ∙ f in
          let one : Fault = record { line = i.line; cause = d } in
          let two : Fault = record { line = line; cause = c } in
          let alike : one ≡ two = cc in
          let on : i.line ≡ line = ap (λ (x : Fault). x.line) alike in
          let for : d ≡ c = ap (λ (x : Fault). x.cause) alike in
          record {
            before = [];
            item = i;
            after = items;
            so_far = st;
            place = refl;
            earlier = refl;
            reason = lowest_reason names st i.body c (m ∙ ap (λ (x : BurnCause). Err x) for);
            on_line = on;
          }
    ] in
    at (item_made names st i.body) refl e

pub refused_first : (items : List SourceItem) (r : Result ObjectParts BurnFault) → Gives r (burnt items) → Refuses items r
unfolding burnt all_made
refused_first items (Ok o) g = tt
refused_first items (Err faults.Memory) g = tt
refused_first items (Err (faults.At line c)) g =
    let names : List (List ℕ) = names_in items in
    let at : (m : Result ObjectSoFar Fault) → finished names m ≡ Err (record { line = line; cause = c })
    → m ≡ Err (record { line = line; cause = c }) =
    λ m. elim m as (λ v. finished names v ≡ Err (record { line = line; cause = c }) → v ≡ Err (record { line = line; cause = c })) [
      | Ok st ↦ λ e. cc
      | Err f ↦ λ e. let same : f ≡ record { line = line; cause = c } = cc in ap (λ (x : Fault). Err x) same
    ] in
    first_refused names (fresh names) items line c (at (fold (next_made names) (Ok (fresh names)) items) g)

-- where an item is refused first, the items are refused so
refused_told : (names : List (List ℕ)) (st : ObjectSoFar) (items : List SourceItem) (line : ℕ) (c : BurnCause)
    → IsFirstRefused names st items line c → fold (next_made names) (Ok st) items ≡ Err (record { line = line; cause = c })
refused_told names st items line c w =
    let told : Fault = record { line = line; cause = c } in
    let refused : at_line w.item.line (item_made names w.so_far w.item.body) ≡ Err told =
    ap (at_line w.item.line) (lowest_told names w.so_far w.item.body c w.reason)
    ∙ ap (λ (x : ℕ). Err (record { line = x; cause = c })) w.on_line in
    ap (fold (next_made names) (Ok st)) w.place
    ∙ (fold-append (next_made names) (Ok st) w.before (w.item ∷ w.after)
    ∙ (ap (λ (r : Result ObjectSoFar Fault). fold (next_made names) r (w.item ∷ w.after)) w.earlier
    ∙ (ap (λ (r : Result ObjectSoFar Fault). fold (next_made names) r w.after) refused ∙ stays names told w.after)))

made_refused : (items : List SourceItem) (line : ℕ) (c : BurnCause) → IsFirstRefused (names_in items) (fresh (names_in items)) items line c
    → all_made items ≡ Err (record { line = line; cause = c })
unfolding all_made
made_refused items line c w = refused_told (names_in items) (fresh (names_in items)) items line c w

pub refused_only : (items : List SourceItem) (f : BurnFault) → Fails f (all_made items) → (line : ℕ) (c : BurnCause)
    → IsFirstRefused (names_in items) (fresh (names_in items)) items line c → RefusesAs {A = ObjectParts} line c (Err f)
refused_only items faults.Memory g line c w = tt
refused_only items (faults.At l d) g line c w =
    let both : ◌≡◌ {A = Result ObjectSoFar Fault} (Err (record { line = line; cause = c })) (Err (record { line = l; cause = d })) =
    sym (made_refused items line c w) ∙ g in
    let one : Fault = record { line = line; cause = c } in
    let two : Fault = record { line = l; cause = d } in
    let alike : one ≡ two = cc in
    (sym (ap (λ (x : Fault). x.line) alike), sym (ap (λ (x : Fault). x.cause) alike))

pub made_only : (items : List SourceItem) (made : ObjectSoFar) → all_made items ≡ Ok made → (line : ℕ) (c : BurnCause)
    → IsFirstRefused (names_in items) (fresh (names_in items)) items line c → ⊥
made_only items made g line c w =
    let both : ◌≡◌ {A = Result ObjectSoFar Fault} (Err (record { line = line; cause = c })) (Ok made) =
    sym (made_refused items line c w) ∙ g in
    cc

pub one_first : (items : List SourceItem) (line other : ℕ) (c d : BurnCause) → IsFirstRefused (names_in items) (fresh (names_in items))
    items line c → IsFirstRefused (names_in items) (fresh (names_in items)) items other d → (line ≡ other) × (c ≡ d)
one_first items line other c d v w =
    let both : ◌≡◌ {A = Result ObjectSoFar Fault} (Err (record { line = line; cause = c })) (Err (record { line = other; cause = d })) =
    sym (made_refused items line c v) ∙ made_refused items other d w in
    let one : Fault = record { line = line; cause = c } in
    let two : Fault = record { line = other; cause = d } in
    let alike : one ≡ two = cc in
    (ap (λ (x : Fault). x.line) alike, ap (λ (x : Fault). x.cause) alike)
