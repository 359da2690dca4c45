use Rattle.std.proofs.Common.{◌≡◌, List, ℕ, ◌++◌, subst}
use Rattle.std.specs.Prelude.{OnOk}
use Rattle.machine_text.specs.Devices.{devices_text, board_bytes_text}
use Rattle.machine_text.proofs.devices.add_devices.Goals as goal

pub returns : goal.returns
unfolding devices_text
returns c =
    subst (λ (b : List ℕ). OnOk c.add_board_bytes.result (c.add_board_bytes.new.text.items ≡ c.args.text.now.items ++ board_bytes_text b))
    c.save-bytes.ensures.bytes c.add_board_bytes.ensures
