-- What holds of what is found in a unit, and of its reads.
use Rattle.std.specs.Prelude.{◌≡◌, List, map}
use Rattle.std.specs.List.{Contains, list_any}
use Rattle.pyc_body.specs.FoundMessages.{found, reads}
use Rattle.pyc_units.specs.UnitReadings.{unit_reading}
use Rattle.pyc_class_ids.specs.Class.{Id}
use Rattle.pyc_recorder.specs.ReadLists.{IsListOf}
use Rattle.pyc_report.specs.FoundOrder.{in_order, is_alike}
use Rattle.pyc_iface.specs.Answers.{answer_of, class_orders}
use Rattle.pyc_iface.specs.declared.options.Options.{Options}
use Rattle.pyc_names.specs.Interfaces.{interface_of}
use Rattle.pyc_names.specs.SourceFiles.{SourceFile}
use Rattle.pyc_reading.specs.Frames.{Agree}
use Rattle.pyc_reading.specs.Keys.{Key}
use Rattle.pyc_reading.specs.Listings.{Reports, listed}
use Rattle.pyc_reading.specs.Owing.{orders_by}
use Rattle.pyc_report.specs.Message.{Message}
use Rattle.pyc_units.specs.Units.{Unit}

-- ---- what is found

-- what the reading of a unit lists reports these messages: each diagnostic, and of each row of obligations that it
-- requires the message of the first whose type is not assignable by the written rules, over the orders that the files
-- answer
abbrev pub AreListed : Options → List SourceFile → SourceFile → Unit → List Message → Type 0
AreListed options files file unit messages =
    Reports (answer_of files) (listed (answer_of files) (unit_reading options file unit)) messages

-- what is found in a unit is what its listing reports, in order
abbrev pub FoundIsListed : Type 0
FoundIsListed =
    (options : Options) (files : List SourceFile) (file : SourceFile) (unit : Unit)
    → (messages : List Message) × AreListed options files file unit messages
    × (found options files file unit ≡ in_order messages)

-- no other messages are reported by the listing: a line, code and text is found where these have it, and nowhere else,
-- and each message that is found is one of these
abbrev pub FoundWhereListed : Type 0
FoundWhereListed =
    (options : Options) (files : List SourceFile) (file : SourceFile) (unit : Unit) (messages : List Message)
    → AreListed options files file unit messages → (message : Message)
    → (list_any (is_alike message) (found options files file unit) ≡ list_any (is_alike message) messages)
    × (Contains (found options files file unit) message → Contains messages message)

-- the orders over which obligations hold or not are those of the classes that the files declare
abbrev pub MrosAreTheFiles : Type 0
MrosAreTheFiles =
    (files : List SourceFile) (c : Id) → orders_by (answer_of files) c ≡ class_orders files c

-- ---- reads

-- the reads of a unit are its list: each is the key that is lacking over the answers to those before it, and over the
-- answers to all of them its reading comes to what it reports
abbrev pub ReadsAreTheList : Type 0
ReadsAreTheList =
    (options : Options) (files : List SourceFile) (file : SourceFile) (unit : Unit)
    → IsListOf (answer_of files) (unit_reading options file unit) (reads options files file unit)

-- a unit has no other list
abbrev pub OneListAlone : Type 0
OneListAlone =
    (options : Options) (files : List SourceFile) (file : SourceFile) (unit : Unit) (keys : List Key)
    → IsListOf (answer_of files) (unit_reading options file unit) keys → keys ≡ reads options files file unit

-- ---- what both depend on

-- what is found in a unit among some files is what is found in it among others, and so are its reads
abbrev pub IsAlike : Options → (files others : List SourceFile) → SourceFile → Unit → Type 0
IsAlike options files others file unit =
    (found options files file unit ≡ found options others file unit)
    × (reads options files file unit ≡ reads options others file unit)

-- what is found in a unit, and its reads, are alike among files that give the same answers to the reads of the unit
abbrev pub UnitsHaveTheirReads : Type 0
UnitsHaveTheirReads =
    (options : Options) (files others : List SourceFile) (file : SourceFile) (unit : Unit)
    → Agree (answer_of files) (answer_of others) (reads options files file unit)
    → IsAlike options files others file unit

-- so it is where other files give the same answer to each key
abbrev pub AlikeAnswersFindAlike : Type 0
AlikeAnswersFindAlike =
    (options : Options) (files others : List SourceFile) (file : SourceFile) (unit : Unit)
    → ((key : Key) → answer_of files key ≡ answer_of others key) → IsAlike options files others file unit

-- and where they have the same interfaces
abbrev pub AlikeInterfacesFindAlike : Type 0
AlikeInterfacesFindAlike =
    (options : Options) (files others : List SourceFile) (file : SourceFile) (unit : Unit)
    → map interface_of files ≡ map interface_of others → IsAlike options files others file unit
