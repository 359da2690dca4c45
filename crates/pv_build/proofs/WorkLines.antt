-- The two lines of `work`.
use Rattle.std.proofs.Common.{◌≡◌, inl, ℕ, ◌+◌, List, ◌++◌, Option, Result, Ok, Err, IfOk, refl, sym, ap, subst, ◌∙◌, arith, append_assoc}
use Rattle.std.specs.declared.alloc.AllocError.{AllocError}
use Rattle.pv_io.specs.Causes.{Rose}
use Rattle.pv_io.specs.Sink.{Appends, AppendsFront}
use Rattle.pv_io.proofs.Pieces.{appends_both}
use Rattle.trace_check.specs.Lines.{lines, differing}
use Rattle.pv_build.specs.Lines.{work_line}
use Rattle.pv_build.specs.Comparing.{comparison_line, compared_line}
use Rattle.pv_build.specs.Telling.{Says, Cut, TellsBoth}
use Rattle.pv_build.specs.declared.status.Status.{Status}
use Rattle.pv_build.specs.declared.status.Status.TheVariants as status

-- the line of what was found of two texts
pub tells_found : (r : Result (List ℕ) AllocError) (found : Option ℕ) (first second line : List ℕ) → IfOk r (λ l. l ≡ line)
    → line ≡ comparison_line found
    → found ≡ differing 1 (lines first) (lines second) → IfOk r (λ l. l ≡ compared_line first second)
tells_found (Ok l) found first second line is of same = is ∙ of ∙ ap comparison_line same
tells_found (Err e) found first second line is of same = tt

pub work_line_is : (number text text2 sites sites2 items items2 fills : ℕ) → text ≡ text2 → sites ≡ sites2 → items ≡ items2
    → work_line number text sites items fills ≡ work_line number text2 sites2 items2 fills
work_line_is number text text2 sites sites2 items items2 fills a b c =
    ap (λ (k : ℕ). work_line number k sites items fills) a
    ∙ (ap (λ (k : ℕ). work_line number text2 k items fills) b ∙ ap (λ (k : ℕ). work_line number text2 sites2 k fills) c)

pub tells_both : (line wanted first second other other2 told : List ℕ) (old new : Option (List ℕ)) (before now : ℕ) (st : Status)
    → line ≡ wanted → other ≡ first → other2 ≡ second
    → told ≡ compared_line other other2 → Says (line ++ told) status.Done old new before now st
    → TellsBoth wanted first second old new before now st
tells_both line wanted first second other other2 told old new before now st is same same2 compares said =
    let told_is =
    subst (λ (t : List ℕ). told ≡ compared_line first t) same2 (subst (λ (t : List ℕ). told ≡ compared_line t other2) same compares) in
    inl (
    subst (λ (t : List ℕ). Says (wanted ++ t) status.Done old new before now st) told_is
    (subst (λ (l : List ℕ). Says (l ++ told) status.Done old new before now st) is said)
    )

-- ---- both are put

-- the output failed within the first
pub cut_first : (old new : Option (List ℕ)) (first second bytes : List ℕ) (before now : ℕ) → bytes ≡ first
    → AppendsFront old new bytes → Rose before now
    → Says (first ++ second) status.Done old new before now status.WriteFault
cut_first old new first second bytes before now same h rose =
    Cut refl (record {
      front = h.front;
      rest = h.rest ++ second;
      whole = sym (append_assoc h.front h.rest second) ∙ ap (λ (l : List ℕ). l ++ second) (h.whole ∙ same);
      taken = h.taken;
    }) rose

-- the output failed within the second
pub cut_second : (old mid new : Option (List ℕ)) (first second bytes bytes2 : List ℕ) (before middle now : ℕ) → bytes ≡ first
    → bytes2 ≡ second → Appends old mid bytes → middle ≡ before
    → AppendsFront mid new bytes2 → Rose middle now → Says (first ++ second) status.Done old new before now status.WriteFault
cut_second old mid new first second bytes bytes2 before middle now same same2 put kept h rose =
    Cut refl (record {
      front = first ++ h.front;
      rest = h.rest;
      whole = append_assoc first h.front h.rest ∙ ap (λ (l : List ℕ). first ++ l) (h.whole ∙ same2);
      taken = appends_both old mid new first h.front (subst (λ (l : List ℕ). Appends old mid l) same put) h.taken;
    }) (omega (arith, kept, rose))
