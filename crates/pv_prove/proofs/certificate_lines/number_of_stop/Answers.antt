use Rattle.std.proofs.Common.{refl}
use Rattle.run_trace.specs.Text.{stop_name}
use Rattle.pv_prove.proofs.certificate_lines.number_of_stop.Goals as goal

pub returns-in-Unsupported : goal.returns-in-Unsupported
unfolding stop_name
returns-in-Unsupported c = rw c.in-Unsupported.is refl

pub returns-in-BeyondRam : goal.returns-in-BeyondRam
unfolding stop_name
returns-in-BeyondRam c = rw c.in-BeyondRam.is refl

pub returns-in-WrapAccess : goal.returns-in-WrapAccess
unfolding stop_name
returns-in-WrapAccess c = rw c.in-WrapAccess.is refl

pub returns-in-DeliveryFailed : goal.returns-in-DeliveryFailed
unfolding stop_name
returns-in-DeliveryFailed c = rw c.in-DeliveryFailed.is refl

pub returns-in-ControlBits : goal.returns-in-ControlBits
unfolding stop_name
returns-in-ControlBits c = rw c.in-ControlBits.is refl

pub returns-in-DeviceUse : goal.returns-in-DeviceUse
unfolding stop_name
returns-in-DeviceUse c = rw c.in-DeviceUse.is refl

pub returns-in-FlagBits : goal.returns-in-FlagBits
unfolding stop_name
returns-in-FlagBits c = rw c.in-FlagBits.is refl

pub returns-in-SegmentForm : goal.returns-in-SegmentForm
unfolding stop_name
returns-in-SegmentForm c = rw c.in-SegmentForm.is refl

pub returns-in-TextTouched : goal.returns-in-TextTouched
unfolding stop_name
returns-in-TextTouched c = rw c.in-TextTouched.is refl

pub returns-in-WedgeTouched : goal.returns-in-WedgeTouched
unfolding stop_name
returns-in-WedgeTouched c = rw c.in-WedgeTouched.is refl

pub returns-in-LowTouched : goal.returns-in-LowTouched
unfolding stop_name
returns-in-LowTouched c = rw c.in-LowTouched.is refl

pub returns-in-NotAStart : goal.returns-in-NotAStart
unfolding stop_name
returns-in-NotAStart c = rw c.in-NotAStart.is refl

pub returns-in-TextMapped : goal.returns-in-TextMapped
unfolding stop_name
returns-in-TextMapped c = rw c.in-TextMapped.is refl

pub returns-in-TableInText : goal.returns-in-TableInText
unfolding stop_name
returns-in-TableInText c = rw c.in-TableInText.is refl

pub returns-in-UserFlags : goal.returns-in-UserFlags
unfolding stop_name
returns-in-UserFlags c = rw c.in-UserFlags.is refl

pub returns-in-CodeIsTable : goal.returns-in-CodeIsTable
unfolding stop_name
returns-in-CodeIsTable c = rw c.in-CodeIsTable.is refl
