-- The interfaces of the files of a world, as plain ones.
use Rattle.std.specs.Prelude.{List}
use Rattle.pyc_iface.specs.declared.world.PlainWorld.{PlainWorld}
use Rattle.pyc_iface.specs.declared.world.PlainWorldAnswers.{PlainWorldAnswers}
use Rattle.pyc_names.specs.Interfaces.{Interface}
use Rattle.pyc_names.specs.TableView.{table_in}

-- the interfaces of the files of a world
abbrev pub world_in : PlainWorld → List Interface
world_in world = table_in world.table

-- those of the world whose answers these are
abbrev pub answers_in : PlainWorldAnswers → List Interface
answers_in answers = world_in answers.world.now
