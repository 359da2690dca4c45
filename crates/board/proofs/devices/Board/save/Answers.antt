use Rattle.std.proofs.Common.{ap, ◌∙◌, sym, length}
use Rattle.board.specs.Saved.{chip_bytes, timer_bytes, set_bytes}
use Rattle.board.specs.Restored.{board_at}
use Rattle.board.specs.Form.{board_form}
use Rattle.uart16550.specs.States.{settings_of, port_fits, registers_of}
use Rattle.pic8259.specs.Requests.{pair_fits}
use Rattle.pit8254.specs.Counts.{is_count}
use Rattle.pit8254.specs.declared.timer.Timer.{Timer}
use Rattle.uart16550.specs.declared.settings.Settings.{Settings}
use Rattle.board.proofs.Saves.{laid, saved_back, saved_form}
use Rattle.board.proofs.devices.Board.save.Goals as goal

pub returns-clause-bytes : goal.returns-clause-bytes
returns-clause-bytes c =
    laid c.args.self.now c.copy_from_slice.new.self c.copy_from_slice-2.new.self c.copy_from_slice-3.new.self
    c.copy_from_slice-4.new.self c.copy_from_slice-5.new.self (length c.kept-kept.result.now)
    (c.copy_from_slice.ensures.after ∙ c.chip_bytes.ensures ∙ ap (λ pair. chip_bytes pair.master) c.pair-pair.ensures.state)
    (c.copy_from_slice-2.ensures.after ∙ c.chip_bytes-2.ensures ∙ ap (λ pair. chip_bytes pair.slave) c.pair-pair.ensures.state)
    (c.copy_from_slice-3.ensures.after ∙ c.timer_bytes.ensures ∙ ap timer_bytes c.timer-timer.ensures.state)
    (c.copy_from_slice-4.ensures.after ∙ c.set_bytes.ensures
    ∙ ap (λ s. set_bytes (registers_of s c.kept-kept.result.now)) c.settings-settings.ensures.state
    ∙ ap (λ k. set_bytes (registers_of (settings_of c.args.self.now.uart) k)) c.kept-kept.ensures)
    (c.copy_from_slice-5.ensures.after ∙ c.kept-kept.ensures)
    (ap length c.kept-kept.ensures)

pub returns-clause-form : goal.returns-clause-form
returns-clause-form c =
    ap board_form (returns-clause-bytes c)
    ∙ saved_form c.args.self.now
    (sym (ap pair_fits c.pair-pair.ensures.state) ∙ c.pair-pair.ensures.fits)
    (sym (ap (λ (t : Timer). is_count t.count) c.timer-timer.ensures.state) ∙ c.timer-timer.ensures.fits)
    (sym (ap (λ (s : Settings). port_fits s.modem_control c.args.self.now.uart.kept) c.settings-settings.ensures.state)
    ∙ c.settings-settings.ensures.fits)

pub returns-clause-back : goal.returns-clause-back
returns-clause-back c =
    ap board_at (returns-clause-bytes c)
    ∙ saved_back c.args.self.now
    (sym (ap (λ (t : Timer). is_count t.count) c.timer-timer.ensures.state) ∙ c.timer-timer.ensures.fits)
