use Rattle.std.proofs.Common.{refl, Some, true}
use Rattle.alma_driver_words.proofs.SettingLemmas.{steps_more, stats_more, watch_more}
use Rattle.alma_driver_words.proofs.options.Options.put.Goals as goal

pub returns-in-Steps : goal.returns-in-Steps
returns-in-Steps c =
    let free = rw c.in-Steps.is at c.requires in
    rw c.in-Steps.is (steps_more c.args.self.now (record c.args.self.now { steps = Some c.in-Steps.steps }) c.in-Steps.steps free refl refl
    refl)

pub returns-in-Stats : goal.returns-in-Stats
returns-in-Stats c =
    let free = rw c.in-Stats.is at c.requires in
    rw c.in-Stats.is (stats_more c.args.self.now (record c.args.self.now { stats = true }) free refl refl refl)

pub returns-in_ok-push-in-Watch : goal.returns-in_ok-push-in-Watch
returns-in_ok-push-in-Watch c =
    rw c.in-Watch.is
    (watch_more c.args.self.now (record c.args.self.now { watch = c.push.new.self }) c.in-Watch.name c.in_ok-push-in-Watch.ensures.items
    refl refl)
