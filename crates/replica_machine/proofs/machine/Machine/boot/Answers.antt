use Rattle.std.proofs.Common.{◌≡◌, ◌≢◌, ◌<◌, ◌≤◌, ⊎_elim, ℕ, ap, ◌∙◌, sym, subst, refl, arith, rules}
use Rattle.m3_model.specs.declared.replica.Standing.{Standing}
use Rattle.m3_model.specs.declared.replica.Standing.TheVariants as standing
use Rattle.replica_machine.proofs.BeginLemmas.{boot_down, boot_unowned, boot_from, boot_again}
use Rattle.replica_machine.proofs.BootReasons.{own_reasons}
use Rattle.replica_machine.proofs.RefusedFiles.{untouched, owned}
use Rattle.replica_machine.proofs.machine.Machine.boot.Goals as goal

-- neither closed nor at Boot
open_by : (s : Standing) → s ≢ standing.Down → s ≢ standing.Boot → s ≡ standing.Open
open_by standing.Down down boot = absurd (down refl)
open_by standing.Boot down boot = absurd (boot refl)
open_by standing.Open down boot = refl

pub returns-in-Down-clause-began : goal.returns-in-Down-clause-began
returns-in-Down-clause-began g c =
    let is : c.self.inside.standing ≡ standing.Down = search rules in
    (boot_down g.D.Disk.state c.args.self.now c.args.tenure (sym (ap (λ m. m.standing) c.self.view_is) ∙ is)).began

pub returns-in-Down-clause-again : goal.returns-in-Down-clause-again
returns-in-Down-clause-again g c =
    let is : c.self.inside.standing ≡ standing.Down = search rules in
    (boot_down g.D.Disk.state c.args.self.now c.args.tenure (sym (ap (λ m. m.standing) c.self.view_is) ∙ is)).again

pub returns-in-Down-clause-down : goal.returns-in-Down-clause-down
returns-in-Down-clause-down g c =
    let is : c.self.inside.standing ≡ standing.Down = search rules in
    (boot_down g.D.Disk.state c.args.self.now c.args.tenure (sym (ap (λ m. m.standing) c.self.view_is) ∙ is)).down

pub returns-in-Down-clause-unowned : goal.returns-in-Down-clause-unowned
returns-in-Down-clause-unowned g c =
    let is : c.self.inside.standing ≡ standing.Down = search rules in
    (boot_down g.D.Disk.state c.args.self.now c.args.tenure (sym (ap (λ m. m.standing) c.self.view_is) ∙ is)).unowned

pub returns-in-Down-clause-unowned_always : goal.returns-in-Down-clause-unowned_always
returns-in-Down-clause-unowned_always g c =
    let is : c.self.inside.standing ≡ standing.Down = search rules in
    (boot_down g.D.Disk.state c.args.self.now c.args.tenure (sym (ap (λ m. m.standing) c.self.view_is) ∙ is)).unowned_always

pub returns-in-Down-clause-sound : goal.returns-in-Down-clause-sound
returns-in-Down-clause-sound g c =
    let is : c.self.inside.standing ≡ standing.Down = search rules in
    (boot_down g.D.Disk.state c.args.self.now c.args.tenure (sym (ap (λ m. m.standing) c.self.view_is) ∙ is)).sound

pub returns-in-Down-clause-damage : goal.returns-in-Down-clause-damage
returns-in-Down-clause-damage g c =
    let is : c.self.inside.standing ≡ standing.Down = search rules in
    (boot_down g.D.Disk.state c.args.self.now c.args.tenure (sym (ap (λ m. m.standing) c.self.view_is) ∙ is)).damage

pub returns-in-Down-clause-err : goal.returns-in-Down-clause-err
returns-in-Down-clause-err g c =
    let is : c.self.inside.standing ≡ standing.Down = search rules in
    (boot_down g.D.Disk.state c.args.self.now c.args.tenure (sym (ap (λ m. m.standing) c.self.view_is) ∙ is)).err

pub returns-in-Down-clause-disk : goal.returns-in-Down-clause-disk
returns-in-Down-clause-disk g c =
    let is : c.self.inside.standing ≡ standing.Down = search rules in
    (boot_down g.D.Disk.state c.args.self.now c.args.tenure (sym (ap (λ m. m.standing) c.self.view_is) ∙ is)).disk

pub returns-in-Down-clause-step : goal.returns-in-Down-clause-step
returns-in-Down-clause-step g c =
    let is : c.self.inside.standing ≡ standing.Down = search rules in
    (boot_down g.D.Disk.state c.args.self.now c.args.tenure (sym (ap (λ m. m.standing) c.self.view_is) ∙ is)).step

pub returns-then-tenure-self-clause-began : goal.returns-then-tenure-self-clause-began
returns-then-tenure-self-clause-began g c =
    let not : c.self.inside.standing ≢ standing.Down = search rules in
    (boot_unowned g.D.Disk.state c.args.self.now c.args.tenure (λ e. not (ap (λ m. m.standing) c.self.view_is ∙ e)) (subst (λ (n : ℕ). c.args.tenure < n) (ap (λ m. m.begun) c.self.view_is) c.if-tenure-self.true)).began

pub returns-then-tenure-self-clause-again : goal.returns-then-tenure-self-clause-again
returns-then-tenure-self-clause-again g c =
    let not : c.self.inside.standing ≢ standing.Down = search rules in
    (boot_unowned g.D.Disk.state c.args.self.now c.args.tenure (λ e. not (ap (λ m. m.standing) c.self.view_is ∙ e)) (subst (λ (n : ℕ). c.args.tenure < n) (ap (λ m. m.begun) c.self.view_is) c.if-tenure-self.true)).again

pub returns-then-tenure-self-clause-down : goal.returns-then-tenure-self-clause-down
returns-then-tenure-self-clause-down g c =
    let not : c.self.inside.standing ≢ standing.Down = search rules in
    (boot_unowned g.D.Disk.state c.args.self.now c.args.tenure (λ e. not (ap (λ m. m.standing) c.self.view_is ∙ e)) (subst (λ (n : ℕ). c.args.tenure < n) (ap (λ m. m.begun) c.self.view_is) c.if-tenure-self.true)).down

pub returns-then-tenure-self-clause-unowned : goal.returns-then-tenure-self-clause-unowned
returns-then-tenure-self-clause-unowned g c =
    let not : c.self.inside.standing ≢ standing.Down = search rules in
    (boot_unowned g.D.Disk.state c.args.self.now c.args.tenure (λ e. not (ap (λ m. m.standing) c.self.view_is ∙ e)) (subst (λ (n : ℕ). c.args.tenure < n) (ap (λ m. m.begun) c.self.view_is) c.if-tenure-self.true)).unowned

pub returns-then-tenure-self-clause-unowned_always : goal.returns-then-tenure-self-clause-unowned_always
returns-then-tenure-self-clause-unowned_always g c =
    let not : c.self.inside.standing ≢ standing.Down = search rules in
    (boot_unowned g.D.Disk.state c.args.self.now c.args.tenure (λ e. not (ap (λ m. m.standing) c.self.view_is ∙ e)) (subst (λ (n : ℕ). c.args.tenure < n) (ap (λ m. m.begun) c.self.view_is) c.if-tenure-self.true)).unowned_always

pub returns-then-tenure-self-clause-sound : goal.returns-then-tenure-self-clause-sound
returns-then-tenure-self-clause-sound g c =
    let not : c.self.inside.standing ≢ standing.Down = search rules in
    (boot_unowned g.D.Disk.state c.args.self.now c.args.tenure (λ e. not (ap (λ m. m.standing) c.self.view_is ∙ e)) (subst (λ (n : ℕ). c.args.tenure < n) (ap (λ m. m.begun) c.self.view_is) c.if-tenure-self.true)).sound

pub returns-then-tenure-self-clause-damage : goal.returns-then-tenure-self-clause-damage
returns-then-tenure-self-clause-damage g c =
    let not : c.self.inside.standing ≢ standing.Down = search rules in
    (boot_unowned g.D.Disk.state c.args.self.now c.args.tenure (λ e. not (ap (λ m. m.standing) c.self.view_is ∙ e)) (subst (λ (n : ℕ). c.args.tenure < n) (ap (λ m. m.begun) c.self.view_is) c.if-tenure-self.true)).damage

pub returns-then-tenure-self-clause-err : goal.returns-then-tenure-self-clause-err
returns-then-tenure-self-clause-err g c =
    let not : c.self.inside.standing ≢ standing.Down = search rules in
    (boot_unowned g.D.Disk.state c.args.self.now c.args.tenure (λ e. not (ap (λ m. m.standing) c.self.view_is ∙ e)) (subst (λ (n : ℕ). c.args.tenure < n) (ap (λ m. m.begun) c.self.view_is) c.if-tenure-self.true)).err

pub returns-then-tenure-self-clause-disk : goal.returns-then-tenure-self-clause-disk
returns-then-tenure-self-clause-disk g c =
    let not : c.self.inside.standing ≢ standing.Down = search rules in
    (boot_unowned g.D.Disk.state c.args.self.now c.args.tenure (λ e. not (ap (λ m. m.standing) c.self.view_is ∙ e)) (subst (λ (n : ℕ). c.args.tenure < n) (ap (λ m. m.begun) c.self.view_is) c.if-tenure-self.true)).disk

pub returns-then-tenure-self-clause-step : goal.returns-then-tenure-self-clause-step
returns-then-tenure-self-clause-step g c =
    let not : c.self.inside.standing ≢ standing.Down = search rules in
    (boot_unowned g.D.Disk.state c.args.self.now c.args.tenure (λ e. not (ap (λ m. m.standing) c.self.view_is ∙ e)) (subst (λ (n : ℕ). c.args.tenure < n) (ap (λ m. m.begun) c.self.view_is) c.if-tenure-self.true)).step

pub returns-in-Boot-clause-began : goal.returns-in-Boot-clause-began
returns-in-Boot-clause-began g c =
    let e = c.begin.ensures in
    let is : c.self.inside.standing ≡ standing.Boot = search rules in
    let done =
    boot_from g.D.Disk.state c.args.self.now c.args.tenure (sym (ap (λ m. m.standing) c.self.view_is) ∙ is) (subst (λ (n : ℕ). n ≤ c.args.tenure) (ap (λ m. m.begun) c.self.view_is) c.if-tenure-self.false) c.begin.result c.begin.new.self
    (record { began = e.began; not_down = e.not_down; unowned = e.unowned; damage = e.damage; err = e.err; disk = e.disk; step = e.step }) in
    done.began

pub returns-in-Boot-clause-again : goal.returns-in-Boot-clause-again
returns-in-Boot-clause-again g c =
    let e = c.begin.ensures in
    let is : c.self.inside.standing ≡ standing.Boot = search rules in
    let done =
    boot_from g.D.Disk.state c.args.self.now c.args.tenure (sym (ap (λ m. m.standing) c.self.view_is) ∙ is) (subst (λ (n : ℕ). n ≤ c.args.tenure) (ap (λ m. m.begun) c.self.view_is) c.if-tenure-self.false) c.begin.result c.begin.new.self
    (record { began = e.began; not_down = e.not_down; unowned = e.unowned; damage = e.damage; err = e.err; disk = e.disk; step = e.step }) in
    done.again

pub returns-in-Boot-clause-down : goal.returns-in-Boot-clause-down
returns-in-Boot-clause-down g c =
    let e = c.begin.ensures in
    let is : c.self.inside.standing ≡ standing.Boot = search rules in
    let done =
    boot_from g.D.Disk.state c.args.self.now c.args.tenure (sym (ap (λ m. m.standing) c.self.view_is) ∙ is) (subst (λ (n : ℕ). n ≤ c.args.tenure) (ap (λ m. m.begun) c.self.view_is) c.if-tenure-self.false) c.begin.result c.begin.new.self
    (record { began = e.began; not_down = e.not_down; unowned = e.unowned; damage = e.damage; err = e.err; disk = e.disk; step = e.step }) in
    done.down

pub returns-in-Boot-clause-unowned : goal.returns-in-Boot-clause-unowned
returns-in-Boot-clause-unowned g c =
    let e = c.begin.ensures in
    let is : c.self.inside.standing ≡ standing.Boot = search rules in
    let done =
    boot_from g.D.Disk.state c.args.self.now c.args.tenure (sym (ap (λ m. m.standing) c.self.view_is) ∙ is) (subst (λ (n : ℕ). n ≤ c.args.tenure) (ap (λ m. m.begun) c.self.view_is) c.if-tenure-self.false) c.begin.result c.begin.new.self
    (record { began = e.began; not_down = e.not_down; unowned = e.unowned; damage = e.damage; err = e.err; disk = e.disk; step = e.step }) in
    done.unowned

pub returns-in-Boot-clause-unowned_always : goal.returns-in-Boot-clause-unowned_always
returns-in-Boot-clause-unowned_always g c =
    let e = c.begin.ensures in
    let is : c.self.inside.standing ≡ standing.Boot = search rules in
    let done =
    boot_from g.D.Disk.state c.args.self.now c.args.tenure (sym (ap (λ m. m.standing) c.self.view_is) ∙ is) (subst (λ (n : ℕ). n ≤ c.args.tenure) (ap (λ m. m.begun) c.self.view_is) c.if-tenure-self.false) c.begin.result c.begin.new.self
    (record { began = e.began; not_down = e.not_down; unowned = e.unowned; damage = e.damage; err = e.err; disk = e.disk; step = e.step }) in
    done.unowned_always

pub returns-in-Boot-clause-sound : goal.returns-in-Boot-clause-sound
returns-in-Boot-clause-sound g c =
    let e = c.begin.ensures in
    let is : c.self.inside.standing ≡ standing.Boot = search rules in
    let done =
    boot_from g.D.Disk.state c.args.self.now c.args.tenure (sym (ap (λ m. m.standing) c.self.view_is) ∙ is) (subst (λ (n : ℕ). n ≤ c.args.tenure) (ap (λ m. m.begun) c.self.view_is) c.if-tenure-self.false) c.begin.result c.begin.new.self
    (record { began = e.began; not_down = e.not_down; unowned = e.unowned; damage = e.damage; err = e.err; disk = e.disk; step = e.step }) in
    done.sound

pub returns-in-Boot-clause-damage : goal.returns-in-Boot-clause-damage
returns-in-Boot-clause-damage g c =
    let e = c.begin.ensures in
    let is : c.self.inside.standing ≡ standing.Boot = search rules in
    let done =
    boot_from g.D.Disk.state c.args.self.now c.args.tenure (sym (ap (λ m. m.standing) c.self.view_is) ∙ is) (subst (λ (n : ℕ). n ≤ c.args.tenure) (ap (λ m. m.begun) c.self.view_is) c.if-tenure-self.false) c.begin.result c.begin.new.self
    (record { began = e.began; not_down = e.not_down; unowned = e.unowned; damage = e.damage; err = e.err; disk = e.disk; step = e.step }) in
    done.damage

pub returns-in-Boot-clause-err : goal.returns-in-Boot-clause-err
returns-in-Boot-clause-err g c =
    let e = c.begin.ensures in
    let is : c.self.inside.standing ≡ standing.Boot = search rules in
    let done =
    boot_from g.D.Disk.state c.args.self.now c.args.tenure (sym (ap (λ m. m.standing) c.self.view_is) ∙ is) (subst (λ (n : ℕ). n ≤ c.args.tenure) (ap (λ m. m.begun) c.self.view_is) c.if-tenure-self.false) c.begin.result c.begin.new.self
    (record { began = e.began; not_down = e.not_down; unowned = e.unowned; damage = e.damage; err = e.err; disk = e.disk; step = e.step }) in
    done.err

pub returns-in-Boot-clause-disk : goal.returns-in-Boot-clause-disk
returns-in-Boot-clause-disk g c =
    let e = c.begin.ensures in
    let is : c.self.inside.standing ≡ standing.Boot = search rules in
    let done =
    boot_from g.D.Disk.state c.args.self.now c.args.tenure (sym (ap (λ m. m.standing) c.self.view_is) ∙ is) (subst (λ (n : ℕ). n ≤ c.args.tenure) (ap (λ m. m.begun) c.self.view_is) c.if-tenure-self.false) c.begin.result c.begin.new.self
    (record { began = e.began; not_down = e.not_down; unowned = e.unowned; damage = e.damage; err = e.err; disk = e.disk; step = e.step }) in
    done.disk

pub returns-in-Boot-clause-step : goal.returns-in-Boot-clause-step
returns-in-Boot-clause-step g c =
    let e = c.begin.ensures in
    let is : c.self.inside.standing ≡ standing.Boot = search rules in
    let done =
    boot_from g.D.Disk.state c.args.self.now c.args.tenure (sym (ap (λ m. m.standing) c.self.view_is) ∙ is) (subst (λ (n : ℕ). n ≤ c.args.tenure) (ap (λ m. m.begun) c.self.view_is) c.if-tenure-self.false) c.begin.result c.begin.new.self
    (record { began = e.began; not_down = e.not_down; unowned = e.unowned; damage = e.damage; err = e.err; disk = e.disk; step = e.step }) in
    done.step

pub returns-in_default-standing-clause-began : goal.returns-in_default-standing-clause-began
returns-in_default-standing-clause-began g c =
    let e = c.begin_again.ensures in
    let down : c.self.inside.standing ≢ standing.Down = search rules in
    let boot : c.self.inside.standing ≢ standing.Boot = search rules in
    let done =
    boot_again g.D.Disk.state c.args.self.now c.args.tenure (sym (ap (λ m. m.standing) c.self.view_is) ∙ open_by c.self.inside.standing down boot) (subst (λ (n : ℕ). n ≤ c.args.tenure) (ap (λ m. m.begun) c.self.view_is) c.if-tenure-self.false)
    c.begin_again.result c.begin_again.new.self e.again e.err e.own e.disk e.step in
    done.began

pub returns-in_default-standing-clause-again : goal.returns-in_default-standing-clause-again
returns-in_default-standing-clause-again g c =
    let e = c.begin_again.ensures in
    let down : c.self.inside.standing ≢ standing.Down = search rules in
    let boot : c.self.inside.standing ≢ standing.Boot = search rules in
    let done =
    boot_again g.D.Disk.state c.args.self.now c.args.tenure (sym (ap (λ m. m.standing) c.self.view_is) ∙ open_by c.self.inside.standing down boot) (subst (λ (n : ℕ). n ≤ c.args.tenure) (ap (λ m. m.begun) c.self.view_is) c.if-tenure-self.false)
    c.begin_again.result c.begin_again.new.self e.again e.err e.own e.disk e.step in
    done.again

pub returns-in_default-standing-clause-down : goal.returns-in_default-standing-clause-down
returns-in_default-standing-clause-down g c =
    let e = c.begin_again.ensures in
    let down : c.self.inside.standing ≢ standing.Down = search rules in
    let boot : c.self.inside.standing ≢ standing.Boot = search rules in
    let done =
    boot_again g.D.Disk.state c.args.self.now c.args.tenure (sym (ap (λ m. m.standing) c.self.view_is) ∙ open_by c.self.inside.standing down boot) (subst (λ (n : ℕ). n ≤ c.args.tenure) (ap (λ m. m.begun) c.self.view_is) c.if-tenure-self.false)
    c.begin_again.result c.begin_again.new.self e.again e.err e.own e.disk e.step in
    done.down

pub returns-in_default-standing-clause-unowned : goal.returns-in_default-standing-clause-unowned
returns-in_default-standing-clause-unowned g c =
    let e = c.begin_again.ensures in
    let down : c.self.inside.standing ≢ standing.Down = search rules in
    let boot : c.self.inside.standing ≢ standing.Boot = search rules in
    let done =
    boot_again g.D.Disk.state c.args.self.now c.args.tenure (sym (ap (λ m. m.standing) c.self.view_is) ∙ open_by c.self.inside.standing down boot) (subst (λ (n : ℕ). n ≤ c.args.tenure) (ap (λ m. m.begun) c.self.view_is) c.if-tenure-self.false)
    c.begin_again.result c.begin_again.new.self e.again e.err e.own e.disk e.step in
    done.unowned

pub returns-in_default-standing-clause-unowned_always : goal.returns-in_default-standing-clause-unowned_always
returns-in_default-standing-clause-unowned_always g c =
    let e = c.begin_again.ensures in
    let down : c.self.inside.standing ≢ standing.Down = search rules in
    let boot : c.self.inside.standing ≢ standing.Boot = search rules in
    let done =
    boot_again g.D.Disk.state c.args.self.now c.args.tenure (sym (ap (λ m. m.standing) c.self.view_is) ∙ open_by c.self.inside.standing down boot) (subst (λ (n : ℕ). n ≤ c.args.tenure) (ap (λ m. m.begun) c.self.view_is) c.if-tenure-self.false)
    c.begin_again.result c.begin_again.new.self e.again e.err e.own e.disk e.step in
    done.unowned_always

pub returns-in_default-standing-clause-sound : goal.returns-in_default-standing-clause-sound
returns-in_default-standing-clause-sound g c =
    let e = c.begin_again.ensures in
    let down : c.self.inside.standing ≢ standing.Down = search rules in
    let boot : c.self.inside.standing ≢ standing.Boot = search rules in
    let done =
    boot_again g.D.Disk.state c.args.self.now c.args.tenure (sym (ap (λ m. m.standing) c.self.view_is) ∙ open_by c.self.inside.standing down boot) (subst (λ (n : ℕ). n ≤ c.args.tenure) (ap (λ m. m.begun) c.self.view_is) c.if-tenure-self.false)
    c.begin_again.result c.begin_again.new.self e.again e.err e.own e.disk e.step in
    done.sound

pub returns-in_default-standing-clause-damage : goal.returns-in_default-standing-clause-damage
returns-in_default-standing-clause-damage g c =
    let e = c.begin_again.ensures in
    let down : c.self.inside.standing ≢ standing.Down = search rules in
    let boot : c.self.inside.standing ≢ standing.Boot = search rules in
    let done =
    boot_again g.D.Disk.state c.args.self.now c.args.tenure (sym (ap (λ m. m.standing) c.self.view_is) ∙ open_by c.self.inside.standing down boot) (subst (λ (n : ℕ). n ≤ c.args.tenure) (ap (λ m. m.begun) c.self.view_is) c.if-tenure-self.false)
    c.begin_again.result c.begin_again.new.self e.again e.err e.own e.disk e.step in
    done.damage

pub returns-in_default-standing-clause-err : goal.returns-in_default-standing-clause-err
returns-in_default-standing-clause-err g c =
    let e = c.begin_again.ensures in
    let down : c.self.inside.standing ≢ standing.Down = search rules in
    let boot : c.self.inside.standing ≢ standing.Boot = search rules in
    let done =
    boot_again g.D.Disk.state c.args.self.now c.args.tenure (sym (ap (λ m. m.standing) c.self.view_is) ∙ open_by c.self.inside.standing down boot) (subst (λ (n : ℕ). n ≤ c.args.tenure) (ap (λ m. m.begun) c.self.view_is) c.if-tenure-self.false)
    c.begin_again.result c.begin_again.new.self e.again e.err e.own e.disk e.step in
    done.err

pub returns-in_default-standing-clause-disk : goal.returns-in_default-standing-clause-disk
returns-in_default-standing-clause-disk g c =
    let e = c.begin_again.ensures in
    let down : c.self.inside.standing ≢ standing.Down = search rules in
    let boot : c.self.inside.standing ≢ standing.Boot = search rules in
    let done =
    boot_again g.D.Disk.state c.args.self.now c.args.tenure (sym (ap (λ m. m.standing) c.self.view_is) ∙ open_by c.self.inside.standing down boot) (subst (λ (n : ℕ). n ≤ c.args.tenure) (ap (λ m. m.begun) c.self.view_is) c.if-tenure-self.false)
    c.begin_again.result c.begin_again.new.self e.again e.err e.own e.disk e.step in
    done.disk

pub returns-in_default-standing-clause-step : goal.returns-in_default-standing-clause-step
returns-in_default-standing-clause-step g c =
    let e = c.begin_again.ensures in
    let down : c.self.inside.standing ≢ standing.Down = search rules in
    let boot : c.self.inside.standing ≢ standing.Boot = search rules in
    let done =
    boot_again g.D.Disk.state c.args.self.now c.args.tenure (sym (ap (λ m. m.standing) c.self.view_is) ∙ open_by c.self.inside.standing down boot) (subst (λ (n : ℕ). n ≤ c.args.tenure) (ap (λ m. m.begun) c.self.view_is) c.if-tenure-self.false)
    c.begin_again.result c.begin_again.new.self e.again e.err e.own e.disk e.step in
    done.step

pub returns-in_default-standing-clause-reasons : goal.returns-in_default-standing-clause-reasons
returns-in_default-standing-clause-reasons g c = own_reasons c.begin_again.result c.begin_again.ensures.own

pub returns-then-tenure-self-clause-unowned_files : goal.returns-then-tenure-self-clause-unowned_files
returns-then-tenure-self-clause-unowned_files g c = rw (← c.self.view_is) (λ tells refused. untouched _)

pub returns-in-Boot-clause-unowned_files : goal.returns-in-Boot-clause-unowned_files
returns-in-Boot-clause-unowned_files g c = c.begin.ensures.unowned_files

pub returns-in_default-standing-clause-unowned_files : goal.returns-in_default-standing-clause-unowned_files
returns-in_default-standing-clause-unowned_files g c tells refused = absurd (owned c.begin_again.result c.begin_again.ensures.own refused)

pub returns-in-Boot-clause-plain : goal.returns-in-Boot-clause-plain
returns-in-Boot-clause-plain g c either =
    let is : c.self.inside.standing ≡ standing.Boot = search rules in
    let stands : c.args.self.now.standing ≡ standing.Boot = sym (ap (λ m. m.standing) c.self.view_is) ∙ is in
    let high : c.args.self.now.begun ≤ c.args.tenure = subst (λ (n : ℕ). n ≤ c.args.tenure) (ap (λ m. m.begun) c.self.view_is) c.if-tenure-self.false in
    absurd (⊎_elim (λ (down : c.args.self.now.standing ≡ standing.Down). let e : standing.Boot ≡ standing.Down = sym stands ∙ down in cc) (λ (low : c.args.tenure < c.args.self.now.begun). omega (arith, high, low)) either)

pub returns-in_default-standing-clause-plain : goal.returns-in_default-standing-clause-plain
returns-in_default-standing-clause-plain g c either =
    let not : c.self.inside.standing ≢ standing.Down = search rules in
    let high : c.args.self.now.begun ≤ c.args.tenure = subst (λ (n : ℕ). n ≤ c.args.tenure) (ap (λ m. m.begun) c.self.view_is) c.if-tenure-self.false in
    absurd (⊎_elim (λ (down : c.args.self.now.standing ≡ standing.Down). not (ap (λ m. m.standing) c.self.view_is ∙ down)) (λ (low : c.args.tenure < c.args.self.now.begun). omega (arith, high, low)) either)
