use Rattle.alma_driver_words.proofs.SettingLemmas.{no_setting}
use Rattle.alma_driver_words.proofs.setting.setting_of.Goals as goal

pub returns-else-eq : goal.returns-else-eq
returns-else-eq c = no_setting c.args.word.now c.in_default.ensures c.in_default-watch_option.ensures _ c.eq.ensures c.if-eq.false
