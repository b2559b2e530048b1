-- What checks units of files, as plain values.
use Rattle.pyc_body.specs.declared.checker.Checker.{Checker}
use Rattle.pyc_iface.specs.declared.options.Options.{Options}

-- the options
abbrev pub options_in : Checker → Options
options_in checker = checker.options
