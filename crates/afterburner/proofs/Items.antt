-- What an item makes is sound.
use Rattle.std.proofs.Common.{◌≡◌, ◌≤◌, ◌<◌, ◌+◌, ◌∙◌, sym, ap, subst, ℕ, zero, suc, false, List, [], ◌∷◌, ◌++◌, length, take, drop, get_or, fold, refl, arith}
use Rattle.std.proofs.lemmas.List.{take_more, take_all, take-append-drop}
use Rattle.std.proofs.lemmas.List.Sums.{fold-append}
use Rattle.std.specs.Prelude.{Result, Ok, Err, IfOk, OnOk}
use Rattle.asm_lex.specs.declared.lexing.TheConstants.{LIMIT}
use Rattle.asm_source.specs.declared.tree.Argument.{Argument}
use Rattle.asm_source.specs.declared.tree.SourceItem.{SourceItem}
use Rattle.asm_source.specs.Size.{body_count, items_count}
use Rattle.asm_source.specs.Readable.{IsReadable}
use Rattle.asm_source.specs.Names.{argument_names, body_names, names_in}
use Rattle.afterburner.specs.declared.fault.BurnFault.{BurnFault}
use Rattle.afterburner.specs.declared.fault.ItemFault.TheVariants as stop
use Rattle.afterburner.specs.declared.fault.BurnCause.{BurnCause}
use Rattle.afterburner.specs.declared.fault.ItemFault.{ItemFault}
use Rattle.asm_source.specs.declared.directive_table.DirectiveName.{DirectiveName}
use Rattle.afterburner.specs.ObjectSoFar.{ObjectSoFar, fresh}
use Rattle.afterburner.specs.Sections.{labelled}
use Rattle.afterburner.specs.Directives.{directed}
use Rattle.afterburner.specs.Burnt.{Fault, parted, item_made, next_made, all_made}
use Rattle.afterburner.specs.Answers.{Makes, Fails, FaultOf}
use Rattle.afterburner.specs.Sound.{IsSound, AreHeld}
use Rattle.afterburner.proofs.Named.{item_held}
use Rattle.afterburner.proofs.Sound.{sound_parted, sound_labelled, sound_directed}

pub labelled_sound : (names : List (List ℕ)) (n : ℕ) (st new1 new2 : ObjectSoFar) (name : List ℕ) → new2 ≡ labelled names new1 name
    → new1 ≡ parted st → IsSound n st → IsSound n new2
labelled_sound names n st new1 new2 name e p s = rw (e, p) (sound_labelled names n st name s)

ok_sound : (n : ℕ) (new : ObjectSoFar) (r : Result ObjectSoFar BurnCause) → r ≡ Ok new → IfOk r (IsSound n) → IsSound n new
ok_sound n new r e h = subst (λ (x : Result ObjectSoFar BurnCause). IfOk x (IsSound n)) e h

pub directed_sound : (names : List (List ℕ)) (st new1 new2 : ObjectSoFar) (d : DirectiveName) (args : List Argument)
    (r : Result (Unit {0}) ItemFault) → Makes new2 r (directed names new1 d args) → new1 ≡ parted st → AreHeld names (argument_names args)
    → IsSound (length names) st → OnOk r (IsSound (length names) new2)
directed_sound names st new1 new2 d args (Err e) m p h s = tt
directed_sound names st new1 new2 d args (Ok u) m p h s =
    let after : IsSound (length names) new1 = rw p (sound_parted (length names) st s) in
    let none : new1.after_sti ≡ false = ap (λ (x : ObjectSoFar). x.after_sti) p in
    ok_sound (length names) new2 (directed names new1 d args) m (sound_directed names new1 d args none h after)

-- ---- all items

item_count : (items : List SourceItem) (k : ℕ) (d : SourceItem) → k < length items → body_count (get_or items k d).body ≤ items_count items
item_count [] k d lt = absurd (omega arith)
item_count (i ∷ items) zero d lt = omega arith
item_count (i ∷ items) (suc k) d lt = let h = item_count items k d (omega arith) in omega (arith, h)

pub item_size : (items : List SourceItem) (k : ℕ) (d i : SourceItem) → k < length items → i ≡ get_or items k d → IsReadable items
    → body_count i.body ≤ LIMIT
item_size items k d i lt e r = let h = item_count items k d lt in rw e (omega (arith, h, r.count))

pub item_among : (names : List (List ℕ)) (items : List SourceItem) (k : ℕ) (d i : SourceItem) → names ≡ names_in items → k < length items
    → i ≡ get_or items k d → AreHeld names (body_names i.body)
item_among names items k d i n lt e = rw (n, e) (item_held items k d lt)

pub stays : (names : List (List ℕ)) (f : Fault) (items : List SourceItem) → fold (next_made names) (Err f) items ≡ Err f
stays names f [] = refl
stays names f (i ∷ items) = stays names f items

-- Nothing is made after the first item that is refused.
stopped : (names : List (List ℕ)) (start : Result ObjectSoFar Fault) (items : List SourceItem) (k : ℕ) (d : SourceItem) (st : ObjectSoFar)
    (c : BurnCause) → k < length items → fold (next_made names) start (take k items) ≡ Ok st
    → item_made names st (get_or items k d).body ≡ Err c
    → fold (next_made names) start items ≡ Err (record { line = (get_or items k d).line; cause = c })
stopped names start items k d st c lt so e =
    let f : Fault = record { line = (get_or items k d).line; cause = c } in
    let here : fold (next_made names) start (take (k + 1) items) ≡ Err f =
    rw (take_more items k d lt, fold-append (next_made names) start (take k items) (get_or items k d ∷ []), so, e) refl in
    let split : items ≡ take (k + 1) items ++ drop (k + 1) items = sym (take-append-drop (k + 1) items) in
    ap (fold (next_made names) start) split ∙ rw (fold-append (next_made names) start (take (k + 1) items) (drop (k + 1) items), here)
    (stays names f (drop (k + 1) items))

pub fault_told : (names : List (List ℕ)) (items : List SourceItem) (k : ℕ) (d i : SourceItem) (st new : ObjectSoFar) (s : ItemFault)
    (f : BurnFault) → names ≡ names_in items → k < length items → i ≡ get_or items k d
    → fold (next_made names) (Ok (fresh names)) (take k items) ≡ Ok st → Makes new (Err s) (item_made names st i.body) → FaultOf i.line s f
    → Fails f (all_made items)
unfolding all_made
fault_told names items k d i st new stop.Memory f n lt e so m told = rw told tt
fault_told names items k d i st new (stop.Cause c) f n lt e so m told =
    let here : item_made names st (get_or items k d).body ≡ Err c = rw (← e) m in
    let all = stopped names (Ok (fresh names)) items k d st c lt so here in
    rw (told, e, ← n) all

pub all_told : (names : List (List ℕ)) (items : List SourceItem) (k : ℕ) (st : ObjectSoFar) → names ≡ names_in items → length items ≤ k
    → fold (next_made names) (Ok (fresh names)) (take k items) ≡ Ok st → all_made items ≡ Ok st
unfolding all_made
all_told names items k st n le so = rw (← n, ← take_all k items le) so
