-- What each answer prints. This project's own lines; numbers are decimal.
use Rattle.std.specs.Prelude.{ℕ, List, [], ◌++◌, codes, decimal}
use Rattle.std.specs.Fmt.{signed_decimal}
use Rattle.cu_command.specs.declared.status.Status.{Status}
use Rattle.cu_command.specs.declared.status.Status.TheVariants.{Done, BadWords, BadExpr, BadType, OverMemory, OverLimit, BadMeta, NoArray, Exists, TaskFailed, ReadFault, WriteFault, BadChunk, OtherPlan, NoPlan, DepotFailed, Unequal, BadLoad, NoTasks, NotReady, NoMemory}

-- the answer's number, which is the exit status of the program
abbrev pub exit_status : Status → ℕ
exit_status Done = 0
exit_status (BadWords code) = 2
exit_status (BadExpr code node) = 3
exit_status (BadType code node) = 4
exit_status (OverMemory node need allowed) = 5
exit_status (OverLimit which count) = 6
exit_status (BadMeta name code) = 7
exit_status (NoArray name) = 8
exit_status (Exists key) = 9
exit_status (TaskFailed op task) = 10
exit_status ReadFault = 11
exit_status WriteFault = 12
exit_status (BadChunk key got want) = 13
exit_status (OtherPlan place) = 14
exit_status NoPlan = 15
exit_status (DepotFailed key) = 16
exit_status (Unequal place stored plain) = 17
exit_status (BadLoad code) = 18
exit_status (NoTasks op tasks) = 20
exit_status (NotReady op task) = 21
exit_status NoMemory = 70

-- the line, with no line feed; Done has none
abbrev pub line_of : Status → List ℕ
line_of Done = []
line_of (BadWords code) = codes "error 2 code=" ++ decimal code
line_of (BadExpr code node) = codes "error 3 code=" ++ decimal code ++ codes " node=" ++ decimal node
line_of (BadType code node) = codes "error 4 code=" ++ decimal code ++ codes " node=" ++ decimal node
line_of (OverMemory node need allowed) = codes "error 5 node=" ++ decimal node ++ codes " need=" ++ decimal need ++ codes " allowed=" ++ decimal allowed
line_of (OverLimit which count) = codes "error 6 which=" ++ decimal which ++ codes " count=" ++ decimal count
line_of (BadMeta name code) = codes "error 7 name=" ++ name ++ codes " code=" ++ decimal code
line_of (NoArray name) = codes "error 8 name=" ++ name
line_of (Exists key) = codes "error 9 key=" ++ key
line_of (TaskFailed op task) = codes "error 10 op=" ++ decimal op ++ codes " task=" ++ decimal task
line_of ReadFault = codes "error 11"
line_of WriteFault = codes "error 12"
line_of (BadChunk key got want) = codes "error 13 key=" ++ key ++ codes " got=" ++ decimal got ++ codes " want=" ++ decimal want
line_of (OtherPlan place) = codes "error 14 place=" ++ decimal place
line_of NoPlan = codes "error 15"
line_of (DepotFailed key) = codes "error 16 key=" ++ key
line_of (Unequal place stored plain) = codes "error 17 place=" ++ decimal place ++ codes " stored=" ++ signed_decimal stored ++ codes " plain=" ++ signed_decimal plain
line_of (BadLoad code) = codes "error 18 code=" ++ decimal code
line_of (NoTasks op tasks) = codes "error 20 op=" ++ decimal op ++ codes " tasks=" ++ decimal tasks
line_of (NotReady op task) = codes "error 21 op=" ++ decimal op ++ codes " task=" ++ decimal task
line_of NoMemory = codes "error 70"
