-- Each refusal of an item has its reason.
use Rattle.std.proofs.Common.{◌≡◌, ℕ, ◌+◌, ◌<◌, ◌++◌, Bool, true, false, not, cond, List, length, Some, Result, Ok, Err, refl, ap, subst, ◌∙◌}
use Rattle.std.specs.Prelude.{nat_lt, fold, replicate}
use Rattle.std.specs.List.{flat_map}
use Rattle.std.proofs.lemmas.Bool.{ltb-true}
use Rattle.asm_source.specs.declared.tree.Argument.{Argument}
use Rattle.asm_source.specs.declared.tree.Body.{Body}
use Rattle.asm_source.specs.declared.tree.Body.TheVariants as body
use Rattle.asm_source.specs.declared.directive_table.DirectiveName.{DirectiveName}
use Rattle.asm_source.specs.declared.directive_table.DirectiveName.TheVariants as directive
use Rattle.asm_instruction.specs.declared.assembled.Assembled.{Assembled}
use Rattle.asm_instruction.specs.declared.assembled.Refusal.{Refusal}
use Rattle.asm_instruction.specs.Assembled.{assembled}
use Rattle.sites.specs.declared.limits.TheConstants.{TEXT_LIMIT, SITE_LIMIT}
use Rattle.afterburner.specs.declared.fault.BurnCause.{BurnCause}
use Rattle.afterburner.specs.declared.fault.BurnCause.TheVariants as cause
use Rattle.afterburner.specs.declared.section.Section.{Section}
use Rattle.afterburner.specs.declared.section.Section.TheVariants as section
use Rattle.ia32_types.specs.declared.size.Size.{Size}
use Rattle.ia32_types.specs.declared.size.Size.TheVariants as size
use Rattle.afterburner.specs.Arguments.{count_at}
use Rattle.afterburner.specs.Causes.{cause_of}
use Rattle.afterburner.specs.ObjectSoFar.{ObjectSoFar}
use Rattle.afterburner.specs.Sections.{is_text, is_init}
use Rattle.afterburner.specs.Directives.{directive_of, all_fit, values, in_init, numbers, with_long, longs, string_bytes, strings, zeros_in, directed}
use Rattle.afterburner.specs.Instructions.{placed, in_text, instruction}
use Rattle.afterburner.specs.Burnt.{parted, made, limited, then_limited, item_made}
use Rattle.afterburner.specs.Reasons.{given_size, gives_data, IsReason}
use Rattle.afterburner.proofs.Statements.{statement_reason}

in_init_refused : (st new : ObjectSoFar) (c : BurnCause) → in_init st new ≡ Err c → (is_init st.section ≡ false) × (cause.DataInText ≡ c)
in_init_refused st new c e = by_test (is_init st.section) refl e
  where
    by_test : (t : Bool) → is_init st.section ≡ t → cond t (Ok new) (Err cause.DataInText) ≡ Err c → (is_init st.section ≡ false)
        × (cause.DataInText ≡ c)
    by_test true q e = absurd cc
    by_test false q e = (q, cc)

module _ (names : List (List ℕ)) (st : ObjectSoFar) (name : List ℕ) (args : List Argument) where
  abbrev Reason : BurnCause → Type 0
  Reason c = IsReason names st (body.Directive name args) c

  outside : (k : DirectiveName) (new : ObjectSoFar) (c : BurnCause) → directive_of name ≡ k → gives_data k ≡ true
      → in_init (parted st) new ≡ Err c → Reason c
  outside k new c q g e =
      let p = in_init_refused (parted st) new c e in
      subst Reason p.1 (IsReason.data_outside (ap gives_data q ∙ g) p.0)

  out_of_range : (k : DirectiveName) (w : Size) (new : ObjectSoFar) (c : BurnCause) → directive_of name ≡ k → given_size k ≡ Some w
      → gives_data k ≡ true
      → cond (not (all_fit w args)) (Err cause.ValueRange) (in_init (parted st) new) ≡ Err c → Reason c
  out_of_range k w new c q f g e = by_fit (all_fit w args) refl e
    where
      by_fit : (t : Bool) → all_fit w args ≡ t → cond (not t) (Err cause.ValueRange) (in_init (parted st) new) ≡ Err c → Reason c
      by_fit true t e = outside k new c q g e
      by_fit false t e = let same : cause.ValueRange ≡ c = cc in subst Reason same (IsReason.range w (ap given_size q ∙ f) t)

  numbers_reason : (k : DirectiveName) (w : Size) (c : BurnCause) → directive_of name ≡ k → given_size k ≡ Some w → gives_data k ≡ true
      → numbers (parted st) w args ≡ Err c → Reason c
  unfolding numbers
  numbers_reason k w c q f g e = out_of_range k w (record (parted st) { init = st.init ++ values w args }) c q f g e

  longs_reason : (c : BurnCause) → directive_of name ≡ directive.Longs → longs names (parted st) args ≡ Err c → Reason c
  unfolding longs
  longs_reason c q e = out_of_range directive.Longs size.Long (fold (with_long names) (parted st) args) c q refl refl e

  strings_reason : (k : DirectiveName) (ended : Bool) (c : BurnCause) → directive_of name ≡ k → gives_data k ≡ true
      → strings (parted st) ended args ≡ Err c → Reason c
  unfolding strings
  strings_reason k ended c q g e = outside k (record (parted st) { init = st.init ++ flat_map (string_bytes ended) args }) c q g e

  over : (limit n : ℕ) → nat_lt limit n ≡ true → limit < n
  over limit n e = ltb-true limit n e

  zeros_reason : (s : Section) (n : ℕ) (c : BurnCause) → st.section ≡ s → count_at args 0 ≡ n → directive_of name ≡ directive.Zeros
      → zeros_in (parted st) s n ≡ Err c → Reason c
  zeros_reason section.Text n c f m q e = let same : cause.DataInText ≡ c =
      cc in subst Reason same (IsReason.zeros_in_text q (ap is_text f))
  zeros_reason section.Init n c f m q e = by_test (nat_lt 33554432 (length st.init + st.bss + n)) refl e
    where
      by_test : (t : Bool) → nat_lt 33554432 (length st.init + st.bss + n) ≡ t
          → cond t (Err cause.InitTooLarge) (Ok (record (parted st) { init = st.init ++ replicate n 0 })) ≡ Err c → Reason c
      by_test true t e = let same : cause.InitTooLarge ≡ c =
          cc in subst Reason same (IsReason.many_zeros q (ap is_init f) (rw m (over 33554432 (length st.init + st.bss + n) t)))
      by_test false t e = absurd cc
  zeros_reason section.Bss n c f m q e = absurd cc

  directed_reason : (k : DirectiveName) (c : BurnCause) → directive_of name ≡ k → directed names (parted st) k args ≡ Err c → Reason c
  unfolding directed
  directed_reason directive.Text c q e = absurd cc
  directed_reason directive.Data c q e = absurd cc
  directed_reason directive.Bss c q e = absurd cc
  directed_reason directive.Section c q e = absurd cc
  directed_reason directive.Global c q e = absurd cc
  directed_reason directive.Local c q e = absurd cc
  directed_reason directive.Bytes c q e = numbers_reason directive.Bytes size.Byte c q refl refl e
  directed_reason directive.Shorts c q e = numbers_reason directive.Shorts size.Word c q refl refl e
  directed_reason directive.Longs c q e = longs_reason c q e
  directed_reason directive.Ascii c q e = strings_reason directive.Ascii false c q refl e
  directed_reason directive.Asciz c q e = strings_reason directive.Asciz true c q refl e
  directed_reason directive.Zeros c q e = zeros_reason st.section (count_at args 0) c refl refl q e
  directed_reason directive.Aligned c q e = absurd cc
  directed_reason directive.Powered c q e = absurd cc
  directed_reason directive.Common c q e = absurd cc
  directed_reason directive.LocalCommon c q e = absurd cc
  directed_reason directive.Skipped c q e = absurd cc

instruction_reason : (names : List (List ℕ)) (st : ObjectSoFar) (rep : Bool) (name : List ℕ) (args : List Argument) (c : BurnCause)
    → instruction names st rep name args ≡ Err c → IsReason names st (body.Instruction rep name args) c
unfolding instruction
instruction_reason names st rep name args c e = by_assembled (assembled rep name args) refl e
  where
    by_section : (a : Assembled) (t : Bool) → is_text st.section ≡ t → cond t (Ok (placed names st args a)) (Err cause.DataInText) ≡ Err c
        → IsReason names st (body.Instruction rep name args) c
    by_section a true q e = absurd cc
    by_section a false q e = let same : cause.DataInText ≡ c =
        cc in subst (IsReason names st (body.Instruction rep name args)) same (IsReason.instruction_outside q)

    by_assembled : (r : Result Assembled Refusal) → assembled rep name args ≡ r → in_text names st args r ≡ Err c
        → IsReason names st (body.Instruction rep name args) c
    by_assembled (Err r) q e = let same : cause_of r ≡ c =
        cc in subst (IsReason names st (body.Instruction rep name args)) same (statement_reason names st rep name args r q)
    by_assembled (Ok a) q e = by_section a (is_text st.section) refl e

made_reason : (names : List (List ℕ)) (st : ObjectSoFar) (b : Body) (c : BurnCause) → made names st b ≡ Err c → IsReason names st b c
unfolding made
made_reason names st (body.Label name) c e = absurd cc
made_reason names st (body.Directive name args) c e = directed_reason names st name args (directive_of name) c refl e
made_reason names st (body.Instruction rep name args) c e = instruction_reason names st rep name args c e

limited_reason : (names : List (List ℕ)) (st new : ObjectSoFar) (b : Body) (c : BurnCause) → made names st b ≡ Ok new → limited new ≡ Err c
    → IsReason names st b c
unfolding limited
limited_reason names st new b c m e = by_text (nat_lt TEXT_LIMIT (length new.text)) refl e
  where
    exceeds : (limit n : ℕ) → nat_lt limit n ≡ true → limit < n
    exceeds limit n e = ltb-true limit n e

    by_sites : (t : Bool) → nat_lt SITE_LIMIT (length new.sites) ≡ t → cond t (Err cause.TooManySites) (Ok new) ≡ Err c
        → IsReason names st b c
    by_sites true t e = let same : cause.TooManySites ≡ c =
        cc in subst (IsReason names st b) same (IsReason.many_sites new m (exceeds SITE_LIMIT (length new.sites) t))
    by_sites false t e = absurd cc

    by_data : (t : Bool) → nat_lt 33554432 (length new.init + new.bss) ≡ t
        → cond t (Err cause.InitTooLarge) (cond (nat_lt SITE_LIMIT (length new.sites)) (Err cause.TooManySites) (Ok new)) ≡ Err c
        → IsReason names st b c
    by_data true t e = let same : cause.InitTooLarge ≡ c =
        cc in subst (IsReason names st b) same (IsReason.large_data new m (exceeds 33554432 (length new.init + new.bss) t))
    by_data false t e = by_sites (nat_lt SITE_LIMIT (length new.sites)) refl e

    by_text : (t : Bool) → nat_lt TEXT_LIMIT (length new.text) ≡ t
        → cond t (Err cause.TextTooLarge)
        (cond (nat_lt 33554432 (length new.init + new.bss)) (Err cause.InitTooLarge)
        (cond (nat_lt SITE_LIMIT (length new.sites)) (Err cause.TooManySites) (Ok new))) ≡ Err c → IsReason names st b c
    by_text true t e = let same : cause.TextTooLarge ≡ c =
        cc in subst (IsReason names st b) same (IsReason.long_text new m (exceeds TEXT_LIMIT (length new.text) t))
    by_text false t e = by_data (nat_lt 33554432 (length new.init + new.bss)) refl e

pub reason : (names : List (List ℕ)) (st : ObjectSoFar) (b : Body) (c : BurnCause) → item_made names st b ≡ Err c → IsReason names st b c
unfolding item_made
reason names st b c e = by_made (made names st b) refl e
  where
    by_made : (r : Result ObjectSoFar BurnCause) → made names st b ≡ r → then_limited r ≡ Err c → IsReason names st b c
    by_made (Err d) m e = let same : d ≡ c = cc in subst (IsReason names st b) same (made_reason names st b d m)
    by_made (Ok new) m e = limited_reason names st new b c m e
