use Rattle.std.proofs.Common.{rules, ◌≡◌, ap, sym, ◌∙◌, ◌+◌, ◌*◌}
use Rattle.std.specs.Prelude.{◌-ℤ◌, nat_abs}
use Rattle.alma_base.specs.declared.fault.RunFault.TheVariants as fault
use Rattle.alma_code.specs.Machine.{number, range_check, put_place}
use Rattle.alma_machine_acts.proofs.Parts.{put_place_at}
use Rattle.alma_machine_acts.proofs.registers.Registers.part.Goals as goal

pub returns-in_err-number : goal.returns-in_err-number
returns-in_err-number g c s same =
    let p = c.in_ok-place.place in
    let low = c.args.range.now.low in
    let given = c.in_ok-place.ensures.1 s (λ a. number s c.args.index
    (λ v. range_check c.args.range.now fault.Index s v (λ _. put_place s c.args.to a.frame (λ l. a.slot + nat_abs (v -ℤ low) * l))))
    same
    ∙ c.in_err-number.ensures.number s (λ v. put_place s c.args.to p.frame (λ l. p.slot + nat_abs (v -ℤ low) * l)) same in
    search (rules, given)

pub returns : goal.returns
returns g c s same =
    let p = c.in_ok-place.place in
    let n = c.in_ok-number.number in
    let low = c.args.range.now.low in
    let to = c.args.to in
    let before : c.cells_before-before.result ≡ nat_abs (n -ℤ low) * c.place_length-part.result = search rules in
    c.in_ok-place.ensures.1 s (λ a. number s c.args.index
    (λ v. range_check c.args.range.now fault.Index s v (λ _. put_place s to a.frame (λ l. a.slot + nat_abs (v -ℤ low) * l)))) same
    ∙ c.in_ok-number.ensures.number s (λ v. put_place s to p.frame (λ l. p.slot + nat_abs (v -ℤ low) * l)) same
    ∙ put_place_at (g.M.MachineMemory.picture c.args.self.now.memory).now s to p.frame c.place_length-part.result
    (λ l. p.slot + nat_abs (n -ℤ low) * l) same c.place_length-part.ensures
    ∙ ap (λ before. put_place s to p.frame (λ _. p.slot + before)) (sym before)
