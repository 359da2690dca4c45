-- What a view lets its code see. The windows and the limit are the profile's.
use Rattle.std.specs.Prelude.{ℕ, Bool, false, nat_le, nat_lt, ◌&&◌}
use Rattle.ia32_types.specs.declared.addresses.TheConstants.{DATA_ADDRESS, WINDOW_ADDRESS, WINDOW_END}
use Rattle.ia32_types.specs.declared.register.Seg.{Seg}
use Rattle.ia32_types.specs.declared.register.Seg.TheVariants.{Es, Ss, Ds}
use Rattle.ia32_exec.specs.declared.selectors.Selectors.{Selectors}
use Rattle.host_cpl3.specs.declared.view.View.{View}
use Rattle.host_cpl3.specs.declared.exit.Exit.{Exit}
use Rattle.host_cpl3.specs.declared.exit.Exit.TheVariants as exits

abbrev pub selectors_of : View → Selectors
selectors_of v = record { es = v.es; cs = v.cs; ss = v.ss; ds = v.ds }

abbrev pub is_null : View → Seg → Bool
is_null v Es = v.es_null
is_null v Ds = v.ds_null
is_null v _ = false

-- the wedge window of linear addresses
abbrev pub is_window : ℕ → Bool
is_window at = nat_le WINDOW_ADDRESS at && nat_lt at WINDOW_END

-- in the kernel view an instruction there isn't done by the host
abbrev pub is_entry : View → ℕ → Bool
is_entry v at = v.kernel && is_window at

-- in the kernel view SS, DS and ES expand down to where the data begins
abbrev pub is_past_limit : View → ℕ → Bool
is_past_limit v at = v.kernel && nat_lt at DATA_ADDRESS

-- the general protection fault without a selector
abbrev pub protection : Exit
protection = exits.Fault 13 0 0

-- the fault of an access past its segment's limit: #SS for the stack's
abbrev pub limit_fault : Seg → Exit
limit_fault Ss = exits.Fault 12 0 0
limit_fault _ = protection
