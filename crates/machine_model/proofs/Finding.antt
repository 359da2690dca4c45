-- What is known of the segments that an instruction finds.
use Rattle.std.proofs.Common.{◌≡◌, ℕ, ◌+◌, ◌*◌, ◌/◌, ◌%◌, ◌==◌, false, not, ◌||◌, refl, sym, subst, nat_lt}
use Rattle.std.proofs.lemmas.Bool.{or_parts}
use Rattle.descriptors.specs.Form.{descriptor_of, is_data, is_code, is_of_system, is_foreign_form, dpl_of, is_present}
use Rattle.descriptors.specs.declared.cpu.Cpu.{Cpu}
use Rattle.descriptors.specs.declared.cpu.Hidden.{Hidden}
use Rattle.descriptors.specs.declared.form.Descriptor.{Descriptor}
use Rattle.sys_exec.specs.declared.effect.Loading.{Loading}
use Rattle.sys_exec.specs.Operand.{protection_0}
use Rattle.sys_exec.specs.Segment.{protection, form_stop, absent, loading, ends_if, selected, marked, find_data, data_tests, load_data, stack_tests, jump_tests, return_tests, find_stack, find_return, find_jump}
use Rattle.machine_model.specs.Fit.{IsLevel, IsSegment}
use Rattle.machine_model.proofs.Yielding.{Yields, then_yields, any_yields, gives_yields, stops_yields, by_yields, keeps_yields}
use Rattle.machine_model.proofs.AbleRows.{level_of}
use Rattle.machine_model.proofs.FitParts.{IsFound, null_fits, jump_below, equal_levels}

module _ (cpu : Cpu) where
  -- ---- segments that are found

  pub found_stack : (cpl sel : ℕ) → Yields (λ (l : Loading). IsFound l.hidden cpl) (find_stack cpu cpl sel)
  unfolding find_stack
  found_stack cpl sel = then_yields (stops_yields protection_0 (nat_lt sel 4)) (λ done far. any_yields (selected cpu form_stop sel) (λ pair.
      let d = descriptor_of pair.0 pair.1 in
      then_yields (tested cpl sel d)
      (λ two level. gives_yields {x = loading sel pair.1 d} (record {
        segment = record { null = sym far; level = level_of pair.0 pair.1 };
        there = refl;
        level_is = level;
      }))))
    where
      tested : (cpl sel : ℕ) (d : Descriptor) → Yields (λ done. dpl_of d ≡ cpl) (stack_tests cpl sel d)
      tested cpl sel d =
          any_yields (ends_if (protection sel) (is_of_system d)) (λ one. any_yields (ends_if form_stop (is_foreign_form d)) (λ two.
          then_yields (stops_yields (protection sel) (not (sel % 4 == cpl) || (is_code d || not (dpl_of d == cpl)))) (λ three t.
          keeps_yields (ends_if (absent 12 sel) (not (is_present d)))
          (equal_levels (dpl_of d) cpl (or_parts (is_code d) _ (or_parts (not (sel % 4 == cpl)) _ t).1).1))))

  pub found_jump : (sel : ℕ) → Yields (λ (l : Loading). IsFound l.hidden cpu.cpl) (find_jump cpu sel)
  unfolding find_jump
  found_jump sel = then_yields (stops_yields protection_0 (nat_lt sel 4)) (λ done far. any_yields (selected cpu form_stop sel) (λ pair.
      let d = descriptor_of pair.0 pair.1 in
      then_yields (tested sel d) (λ two level. gives_yields {x = loading (sel / 4 * 4 + cpu.cpl % 4) pair.1 d}
      (record {
        segment = record { null = sym (jump_below sel (cpu.cpl % 4) far); level = level_of pair.0 pair.1 };
        there = refl;
        level_is = level;
      }))))
    where
      tested : (sel : ℕ) (d : Descriptor) → Yields (λ done. dpl_of d ≡ cpu.cpl) (jump_tests cpu.cpl sel d)
      tested sel d = any_yields (ends_if form_stop (is_of_system d || is_foreign_form d)) (λ one.
          then_yields (stops_yields (protection sel) (is_data d || (nat_lt cpu.cpl (sel % 4) || not (dpl_of d == cpu.cpl)))) (λ three t.
          keeps_yields (ends_if (absent 11 sel) (not (is_present d)))
          (equal_levels (dpl_of d) cpu.cpl (or_parts (nat_lt cpu.cpl (sel % 4)) _ (or_parts (is_data d) _ t).1).1)))

  -- the code that an IRET goes to is of the level in its selector, which isn't an inner one
  pub record IsBack (h : Hidden) (sel : ℕ) : Type 0 where
    pub found : IsFound h (sel % 4)
    pub level : IsLevel (sel % 4)
    pub outward : nat_lt (sel % 4) cpu.cpl ≡ false

  pub found_return : (sel : ℕ) → Yields (λ (l : Loading). IsBack l.hidden sel) (find_return cpu sel)
  unfolding find_return
  found_return sel = then_yields (stops_yields protection_0 (nat_lt sel 4)) (λ done far. any_yields (selected cpu form_stop sel) (λ pair.
      let d = descriptor_of pair.0 pair.1 in
      then_yields (tested sel d) (λ two t. gives_yields {x = loading sel pair.1 d} (record {
        found = record { segment = record { null = sym far; level = level_of pair.0 pair.1 }; there = refl; level_is = t.0 };
        level = subst IsLevel t.0 (level_of pair.0 pair.1);
        outward = t.1;
      }))))
    where
      tested : (sel : ℕ) (d : Descriptor) → Yields (λ done. (dpl_of d ≡ sel % 4) × (nat_lt (sel % 4) cpu.cpl ≡ false))
          (return_tests cpu.cpl sel d)
      tested sel d =
          any_yields (ends_if (protection sel) (is_of_system d)) (λ one. any_yields (ends_if form_stop (is_foreign_form d)) (λ two.
          then_yields (stops_yields (protection sel) (is_data d || (nat_lt (sel % 4) cpu.cpl || not (dpl_of d == sel % 4)))) (λ three t.
          let both_are = or_parts (nat_lt (sel % 4) cpu.cpl) _ (or_parts (is_data d) _ t).1 in
          keeps_yields (ends_if (absent 11 sel) (not (is_present d))) (equal_levels (dpl_of d) (sel % 4) both_are.1, both_are.0))))

  found_data : (sel : ℕ) → nat_lt sel 4 ≡ false → Yields (λ (l : Loading). IsSegment l.hidden) (find_data cpu sel)
  unfolding find_data
  found_data sel far =
      any_yields (selected cpu form_stop sel) (λ pair. any_yields (data_tests cpu.cpl sel (descriptor_of pair.0 pair.1)) (λ done.
      gives_yields {x = loading sel pair.1 (descriptor_of pair.0 pair.1)} (record { null = sym far; level = level_of pair.0 pair.1 })))

  pub hidden_loaded : (sel : ℕ) → Yields IsSegment (load_data cpu sel)
  unfolding load_data
  hidden_loaded sel = by_yields (nat_lt sel 4) (λ low. gives_yields (null_fits sel low))
      (λ far. then_yields (found_data sel far) (λ l h. any_yields (marked cpu l) (λ done. gives_yields h)))
